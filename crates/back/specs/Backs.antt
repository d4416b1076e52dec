-- Going back k steps by a journal (02, L7): what the call is given, refuses, replies and leaves.
use Rattle.std.specs.Prelude.{◌≡◌, List, [], ℕ, zero, suc, ◌+◌, ◌-◌, min, leb, length, get_or, Result}
use Rattle.std.specs.declared.result.Result.TheVariants.{Ok, Err}
use Rattle.refusal.specs.declared.Refusal.{Refusal}
use Rattle.refusal.specs.Refusals.{refusal_number, Verdict, accepted, refused}
use Rattle.word.specs.Word.{pick, flag}
use Rattle.machine.specs.declared.State.{State}
use Rattle.machine.specs.Machine.{Machine, even_places, put_journaled, on_state}
use Rattle.machine.specs.Lengths.{lengths_fit}
use Rattle.machine.specs.Slices.{MutSlice, Slice, before, after, read_before, read_after}
use Rattle.journal.specs.Journal.{undo, is_output}
use Rattle.back.specs.declared.Backed.{Backed}

-- ---- The call

pub record BackGiven : Type 0 where
  pub state : State
  pub P : List ℕ
  pub D : List ℕ
  pub I : List ℕ
  pub O : List ℕ
  pub journal : List ℕ
  pub k : ℕ

-- how many log entries fall away; or the number of the refusal
pub data BackReply : Type 0 where
  gone_back : ℕ → BackReply
  back_refused : ℕ → BackReply

abbrev pub shown_going : Result ℕ Refusal → BackReply
shown_going (Ok n) = gone_back n
shown_going (Err r) = back_refused (refusal_number r)

pub record BackLeft : Type 0 where
  pub reply : BackReply
  pub state : State
  pub P : List ℕ
  pub D : List ℕ
  pub I : List ℕ
  pub O : List ℕ
  pub journal : List ℕ

-- ---- Refusals: 1, 5, 14, in order

-- The state counts the entries; the steps a journal holds are the lesser of that count and n, or none if it is shorter than that count.
abbrev pub steps_held : State → List ℕ → ℕ
steps_held s journal = pick (leb s.journaled (length journal)) (min s.journaled s.n) 0

-- 1: the lengths. 5: PC or the return address odd. 14: the journal holds fewer than k steps.
unfoldable pub back_verdict : BackGiven → Verdict
back_verdict g =
    pick (lengths_fit g.P g.D g.I g.O)
    (pick (even_places g.state) (pick (leb g.k (steps_held g.state g.journal)) accepted (refused 14)) (refused 5))
    (refused 1)

-- ---- What is left

-- the machine as it is given; no log is lent
abbrev pub machine_given : BackGiven → Machine
machine_given g = record { state = g.state; P = g.P; D = g.D; I = g.I; O = g.O; L = [] }

-- the entries at the places count - 1 down to count - k undone in turn
unfoldable pub undone : ℕ → ℕ → List ℕ → Machine → Machine
undone zero count journal m = m
undone (suc k) count journal m = undone k (count - 1) journal (undo (get_or journal (count - 1) 0) m)

-- how many of them are an output's: so many log entries fall away
unfoldable pub fallen : ℕ → ℕ → List ℕ → ℕ
fallen zero count journal = 0
fallen (suc k) count journal = flag (is_output (get_or journal (count - 1) 0)) + fallen k (count - 1) journal

-- Going back k steps takes k off that count and restores registers, PC, n, data and outputs, and enable flag, line number and return address
-- (02, L12). Inputs stay as set, but for input 0 where a read of the key is undone (02, L8); lines stay pending, and a line taken is again.
abbrev pub machine_back : BackGiven → Machine
machine_back g =
    let count = g.state.journaled in
    on_state (put_journaled (count - g.k)) (undone g.k count g.journal (machine_given g))

abbrev pub back_left_by : Verdict → BackGiven → BackLeft
back_left_by accepted g =
    let m = machine_back g in
    record {
      reply = gone_back (fallen g.k g.state.journaled g.journal);
      state = m.state;
      P = m.P;
      D = m.D;
      I = m.I;
      O = m.O;
      journal = g.journal;
    }
-- A refused call changes nothing lent and hands back the state it got.
back_left_by (refused k) g =
    record { reply = back_refused k; state = g.state; P = g.P; D = g.D; I = g.I; O = g.O; journal = g.journal }

unfoldable pub back_left : BackGiven → BackLeft
back_left g = back_left_by (back_verdict g) g

-- the contract, of the call's parameters in their order and what it replies
abbrev pub lent_back : State → Slice → MutSlice → MutSlice → MutSlice → Slice → ℕ → BackGiven
lent_back state program memory inputs outputs journal k =
    record {
      state = state;
      P = read_before program;
      D = before memory;
      I = before inputs;
      O = before outputs;
      journal = read_before journal;
      k = k;
    }

abbrev pub GoesBack : State → Slice → MutSlice → MutSlice → MutSlice → Slice → ℕ → Backed → Type 0
GoesBack state program memory inputs outputs journal k r =
    ◌≡◌ {A = BackLeft}
    (record {
      reply = shown_going r.reply;
      state = r.state;
      P = read_after program;
      D = after memory;
      I = after inputs;
      O = after outputs;
      journal = read_after journal;
    })
    (back_left (lent_back state program memory inputs outputs journal k))
