-- Stepping back under a range (02, L14): an entry that a run writes never names a byte locked by it. So, for lists in which one journal is lent
-- throughout, as its runs left it, a locked byte holds at the end what the load put there.
use Rattle.std.specs.Prelude.{◌≡◌, true, false, List, [], ◌∷◌, ℕ, ◌<◌, length, get_or}
use Rattle.refusal.specs.Refusals.{accepted}
use Rattle.machine.specs.declared.State.{State}
use Rattle.machine.specs.Machine.{Machine, is_locked, touches_locked, bytes_at}
use Rattle.machine.specs.Step.{to, step}
use Rattle.journal.specs.Journal.{Overwritten, nothing, register, data_word, data_byte, output_word, key_read, enable_flag, line_taken, entry_of, overwritten_in}
use Rattle.journal.specs.Ranges.{Numbers, InRange}
use Rattle.usage.specs.declared.Usage.{Usage}
use Rattle.image.specs.Image.{LoadGiven, LoadLeft, load_left}
use Rattle.run.specs.Runs.{no_journal, lent_journal, RunReply}
use Rattle.back.specs.Backs.{BackReply}
use Rattle.claims.specs.Session.{Engine, runs, sets, raises, of_run, Host, host_of, machine_on}
use Rattle.claims.specs.HostSteps.{call, host_step}
use Rattle.claims_isolation.specs.Locked.{AnyCall, does, goes_back, assembles, looks, saves, AnyReply, did, went_back, AnyCalls}

-- ---- What an entry names

-- the bytes of data memory that it puts back
abbrev pub named : Overwritten → List ℕ
named nothing = []
named (register k v) = []
named (data_word k v) = bytes_at k
named (data_byte k v) = k ∷ []
named (output_word k v) = []
named (key_read k v s) = []
named (enable_flag v) = []
named (line_taken k e j v) = []

-- x, read as an entry, names no byte that is locked
abbrev pub NamesNone : State → ℕ → Type 0
NamesNone s x = touches_locked (named (overwritten_in x)) s ≡ false

-- ---- One journal

-- a call that is lent no journal; a set is of a 16-bit value
abbrev pub LentNone : AnyCall → Type 0
LentNone (does (call (runs e lent))) = lent.journal ≡ no_journal
LentNone (does (call (sets port value))) = value < 65536
LentNone (does (call (raises line))) = Unit {0}
LentNone (does (host_step log)) = Unit {0}
LentNone (goes_back journal k) = ⊥
LentNone (assembles text) = Unit {0}
LentNone (looks ofData start count) = Unit {0}
LentNone (saves destination) = Unit {0}

-- One journal is lent throughout the list, whose replies these are; xs is lent first. A run or a going back that is lent it hands it on, as it comes
-- back in the reply, to the calls after; any other call, a run without a journal among them, is lent none.
pub data OneJournal : List ℕ → List AnyCall → List AnyReply → Type 0 where
  none : {xs : List ℕ} → OneJournal xs [] []
  with_run :
      {xs ys log returned : List ℕ} {e : Engine} {budget ticks : ℕ} {reply : RunReply} {usage : Usage} {cs : List AnyCall} {rs : List AnyReply}
      → OneJournal ys cs rs
      → OneJournal xs (does (call (runs e (record { budget = budget; log = log; journal = lent_journal xs }))) ∷ cs)
      (did (of_run reply usage ticks returned (lent_journal ys)) ∷ rs)
  with_back :
      {xs ys : List ℕ} {k : ℕ} {reply : BackReply} {cs : List AnyCall} {rs : List AnyReply} → OneJournal ys cs rs
      → OneJournal xs (goes_back xs k ∷ cs) (went_back reply ys ∷ rs)
  with_other :
      {xs : List ℕ} {c : AnyCall} {r : AnyReply} {cs : List AnyCall} {rs : List AnyReply} → LentNone c → OneJournal xs cs rs
      → OneJournal xs (c ∷ cs) (r ∷ rs)

-- ---- The claim

pub record Kept : Type 0 where
  -- The entry of a step never names a byte that is locked.
  pub names_none : (m next : Machine) → InRange m → step m ≡ to next → NamesNone m.state (entry_of m)
  -- From an accepted load of a file of bytes: the lists of Locked.antt, in which one journal is lent throughout.
  pub stays :
      (g : LoadGiven) (l : LoadLeft) → l ≡ load_left g → l.reply ≡ accepted → Numbers (length g.file) 256 g.file
      → (xs : List ℕ) (cs : List AnyCall) (rs : List AnyReply) (last : Host) → AnyCalls (host_of l) cs rs last → OneJournal xs cs rs
      → (a : ℕ) → is_locked a l.state ≡ true → get_or last.D a 0 ≡ get_or l.D a 0
  -- The same from any host whose numbers are within their widths, with a journal whose counted entries name no locked byte.
  pub stays_from :
      (h : Host) (xs : List ℕ) → InRange (machine_on h []) → ((i : ℕ) → i < h.state.journaled → NamesNone h.state (get_or xs i 0))
      → (cs : List AnyCall) (rs : List AnyReply) (last : Host) → AnyCalls h cs rs last → OneJournal xs cs rs
      → (a : ℕ) → is_locked a h.state ≡ true → get_or last.D a 0 ≡ get_or h.D a 0
  -- Such lists exist: a run with any journal, from any host, then going back by the journal that it left.
  pub exists :
      (h : Host) (xs log : List ℕ) (e : Engine) (budget k : ℕ)
      → (ys : List ℕ) × (rs : List AnyReply) × (last : Host)
      × (let cs = does (call (runs e (record { budget = budget; log = log; journal = lent_journal xs }))) ∷ goes_back ys k ∷ [] in
      AnyCalls h cs rs last × OneJournal xs cs rs)
