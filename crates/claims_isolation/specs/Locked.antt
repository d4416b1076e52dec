-- Isolation (02, L14). Two accepted loads of one board and range, whose memories then differ only in locked bytes, get equal replies, logs,
-- journals, counts, ticks, sheets, windows and saved files from every list of calls, each known by its contract alone, whichever engine does a run;
-- and what the two hosts hold at the end differs only in locked bytes.
use Rattle.std.specs.Prelude.{◌≡◌, Bool, true, false, List, [], ◌∷◌, map, ℕ, ◌≤◌, length, get_or}
use Rattle.refusal.specs.Refusals.{accepted}
use Rattle.machine.specs.declared.State.{State}
use Rattle.machine.specs.Machine.{is_locked}
use Rattle.panel.specs.Calls.{raise_left, window_of}
use Rattle.image.specs.Image.{LoadGiven, LoadLeft, load_left}
use Rattle.save.specs.Saved.{SaveReply, SaveLeft, save_left}
use Rattle.assembler.specs.Text.{Reply as TextReply, AssembleLeft, assemble_left}
use Rattle.run.specs.Runs.{Given, counted_left}
use Rattle.sheet.specs.declared.Sheet.{Sheet}
use Rattle.back.specs.Backs.{BackReply, BackGiven, BackLeft, back_left}
use Rattle.claims.specs.Session.{Engine, stepper_of, Reply, of_run, of_set, of_raise, Host, host_of, plain}
use Rattle.claims.specs.HostSteps.{HostCall, call, host_step, HostCallMeets}
use Rattle.claims.specs.Usage.{Fed, Reordered, Feeds}
use Rattle.claims.specs.Saved.{range_of}
use Rattle.claims_back.specs.History.{given_back, after_back}

-- ---- Memories and hosts that differ only in locked bytes

pub record Differ (s : State) (D E : List ℕ) : Type 0 where
  pub long : length D ≡ length E
  pub same : (k : ℕ) → is_locked k s ≡ false → get_or D k 0 ≡ get_or E k 0

pub record Apart (h g : Host) : Type 0 where
  pub state : h.state ≡ g.state
  pub program : h.P ≡ g.P
  pub memory : Differ h.state h.D g.D
  pub inputs : h.I ≡ g.I
  pub outputs : h.O ≡ g.O

-- ---- The calls

-- a run, a host step, a set, a raise; going back k steps by a journal; assembling a text into P; a window; a save to a destination
pub data AnyCall : Type 0 where
  does : HostCall → AnyCall
  goes_back : List ℕ → ℕ → AnyCall
  assembles : List ℕ → AnyCall
  looks : Bool → ℕ → ℕ → AnyCall
  saves : List ℕ → AnyCall

-- what comes back, with every slice that was lent besides what the host holds
pub data AnyReply : Type 0 where
  did : Reply → AnyReply
  went_back : BackReply → List ℕ → AnyReply
  assembled : TextReply → AnyReply
  saw : List ℕ → AnyReply
  wrote_file : SaveReply → List ℕ → AnyReply

-- but for the engines of the runs
abbrev pub plain_of : AnyCall → AnyCall
plain_of (does (call c)) = does (call (plain c))
plain_of (does (host_step log)) = does (host_step log)
plain_of (goes_back journal k) = goes_back journal k
plain_of (assembles text) = assembles text
plain_of (looks ofData start count) = looks ofData start count
plain_of (saves destination) = saves destination

abbrev pub Alike : List AnyCall → List AnyCall → Type 0
Alike cs₁ cs₂ = map plain_of cs₁ ≡ map plain_of cs₂

abbrev pub after_assembly : Host → AssembleLeft → Host
after_assembly h l = record { state = h.state; P = l.program; D = h.D; I = h.I; O = h.O }

abbrev pub after_save : Host → SaveLeft → Host
after_save h l = record { state = l.state; P = l.P; D = l.D; I = h.I; O = h.O }

-- one call, of which only its contract is known
pub data AnyMeets : Host → AnyCall → AnyReply → Host → Type 0 where
  a_host_call : {h after : Host} {c : HostCall} {r : Reply} → HostCallMeets h c r after → AnyMeets h (does c) (did r) after
  a_back :
      (h : Host) (journal : List ℕ) (k : ℕ) (l : BackLeft) → l ≡ back_left (given_back h journal k)
      → AnyMeets h (goes_back journal k) (went_back l.reply l.journal) (after_back l)
  an_assembly :
      (h : Host) (text : List ℕ) (l : AssembleLeft) → l ≡ assemble_left text h.P
      → AnyMeets h (assembles text) (assembled l.reply) (after_assembly h l)
  a_window :
      (h : Host) (ofData : Bool) (start count : ℕ) (part : List ℕ) → part ≡ window_of h.state h.P h.D ofData start count
      → AnyMeets h (looks ofData start count) (saw part) h
  a_save :
      (h : Host) (destination : List ℕ) (l : SaveLeft)
      → l ≡ save_left (record { state = h.state; P = h.P; D = h.D; destination = destination })
      → AnyMeets h (saves destination) (wrote_file l.reply l.destination) (after_save h l)

pub data AnyCalls : Host → List AnyCall → List AnyReply → Host → Type 0 where
  none : {h : Host} → AnyCalls h [] [] h
  more :
      {h h₁ h₂ : Host} {c : AnyCall} {r : AnyReply} {cs : List AnyCall} {rs : List AnyReply}
      → AnyMeets h c r h₁ → AnyCalls h₁ cs rs h₂ → AnyCalls h (c ∷ cs) (r ∷ rs) h₂

-- ---- What two lists of calls get

-- what a sheet is fed from the replies: the reply of each run and host step, and its counts
unfoldable pub fed_of : List AnyReply → List Fed
fed_of [] = []
fed_of (did (of_run reply usage ticks log j) ∷ rs) = record { reply = reply; usage = usage } ∷ fed_of rs
fed_of (did (of_set v) ∷ rs) = fed_of rs
fed_of (did (of_raise v) ∷ rs) = fed_of rs
fed_of (went_back r journal ∷ rs) = fed_of rs
fed_of (assembled r ∷ rs) = fed_of rs
fed_of (saw part ∷ rs) = fed_of rs
fed_of (wrote_file r destination ∷ rs) = fed_of rs

pub record Indistinguishable (rs₁ rs₂ : List AnyReply) (h₁ h₂ : Host) : Type 0 where
  -- Every reply is equal, and in it every log, journal, count, tick, window and saved file.
  pub replies : rs₁ ≡ rs₂
  -- The usage sheets fed from the replies in any order are equal: what comes of a sheet, an empty one or one with up to 65,535 runs, by the first's
  -- replies comes of it by the second's too, and nothing else does.
  pub sheets :
      (s after : Sheet) (order₁ order₂ : List Fed) → s.runs ≤ 65535 → Reordered (fed_of rs₁) order₁ → Reordered (fed_of rs₂) order₂
      → Feeds s order₁ after → Feeds s order₂ after × ((other : Sheet) → Feeds s order₂ other → other ≡ after)
  -- What the hosts hold differs only in locked bytes.
  pub hosts : Apart h₁ h₂

-- ---- Two accepted loads of one board and range, whose memories differ in locked bytes alone

pub record TwoLoads : Type 0 where
  pub one : LoadGiven
  pub two : LoadGiven
  pub board : one.board ≡ two.board
  pub range : one.range ≡ two.range
  pub accepts : (load_left one).reply ≡ accepted
  pub accepts_two : (load_left two).reply ≡ accepted
  pub program : (load_left one).P ≡ (load_left two).P
  pub memory : Differ (load_left one).state (load_left one).D (load_left two).D
  pub differ : (load_left one).D ≡ (load_left two).D → ⊥

-- ---- The claim

pub record Isolated : Type 0 where
  -- Two accepted loads of one board and range, whose memories then differ only in locked bytes; then any list of calls, the same for both but
  -- for the engines of the runs.
  pub isolation :
      (g₁ g₂ : LoadGiven) → g₁.board ≡ g₂.board → g₁.range ≡ g₂.range
      → (l₁ l₂ : LoadLeft) → l₁ ≡ load_left g₁ → l₁.reply ≡ accepted → l₂ ≡ load_left g₂ → l₂.reply ≡ accepted
      → l₁.P ≡ l₂.P → Differ l₁.state l₁.D l₂.D
      → (cs₁ cs₂ : List AnyCall) → Alike cs₁ cs₂
      → (rs₁ rs₂ : List AnyReply) (h₁ h₂ : Host) → AnyCalls (host_of l₁) cs₁ rs₁ h₁ → AnyCalls (host_of l₂) cs₂ rs₂ h₂
      → Indistinguishable rs₁ rs₂ h₁ h₂
  -- The same from any two hosts that differ only in locked bytes, whatever numbers a host hands in.
  pub apart :
      (h g : Host) → Apart h g → (cs₁ cs₂ : List AnyCall) → Alike cs₁ cs₂
      → (rs₁ rs₂ : List AnyReply) (h₁ h₂ : Host) → AnyCalls h cs₁ rs₁ h₁ → AnyCalls g cs₂ rs₂ h₂ → Indistinguishable rs₁ rs₂ h₁ h₂
  -- Such replies exist for every list.
  pub replies_exist : (h : Host) (cs : List AnyCall) → (rs : List AnyReply) × (last : Host) × AnyCalls h cs rs last
  -- A run leaves every locked byte as it is.
  pub run_locked : (e : Engine) (g : Given) (k : ℕ) → is_locked k g.state ≡ true → get_or (counted_left (stepper_of e) g).left.D k 0 ≡ get_or g.D k 0
  -- Not empty: such loads exist, and their memories differ.
  pub two_loads : TwoLoads
  -- Runs, going back and raises leave the range as it is.
  pub run_range : (e : Engine) (g : Given) → range_of (counted_left (stepper_of e) g).left.state ≡ range_of g.state
  pub back_range : (g : BackGiven) → range_of (back_left g).state ≡ range_of g.state
  pub raise_range : (s : State) (line : ℕ) → range_of (raise_left s line).state ≡ range_of s
