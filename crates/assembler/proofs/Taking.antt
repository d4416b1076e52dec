-- What taking in a line changes: the place, and the reply.
use Prim.Native.Nat.{ℕ, suc, ◌+◌, ◌*◌, ◌≤◌}
use mathlib.Core.Bool.{Bool, true, false}
use mathlib.Core.Path.{◌≡◌, refl, ap}
use mathlib.Core.List.{List, ◌∷◌, ◌++◌}
use native.Mathlib.Omega.{arith}
use Rattle.std.proofs.Common.{Option, Result, Some, None, Ok, Err, IfOk}
use Rattle.word.specs.Word.{pick}
use Rattle.expression.specs.declared.Value.{Value}
use Rattle.expression.specs.Grammar.{Tree}
use Rattle.refusal.specs.declared.Refusal.{Refusal}
use Rattle.assembler.specs.declared.Rejected.{Rejected}
use Rattle.statement.specs.Syntax.{Statement, no_statement, of_row}
use Rattle.statement.specs.Reading.{ReadLine, outside, reads, valued, valued_statement}
use Rattle.assembler.specs.Text.{Place, crowded, admitted, new_labels, after, reply_from}
use Rattle.encoding.specs.Words.{words_in, Judged}
use Rattle.encoding.specs.Numbers.{shown_word}
use Rattle.assembler.specs.Passes.{finish_by, counted}

-- ---- The reply

pub counted_reply : (k : ℕ) (r : Result ℕ Rejected) (w : Result (Option ℕ) Refusal) (js : List Judged)
    → finish_by k (shown_word w ∷ js) r ≡ finish_by (k + 1) js (counted k r w)
unfolding reply_from
counted_reply k (Err r) w js = refl
counted_reply k (Ok n) (Err f) js = refl
counted_reply k (Ok n) (Ok None) js = let e : suc k ≡ k + 1 = omega arith in rw e
counted_reply k (Ok n) (Ok (Some w)) js =
    let e : suc k ≡ k + 1 = omega arith in
    let f : suc n ≡ n + 1 = omega arith in
    rw (e, f)

pub counted_few : (k m : ℕ) (r : Result ℕ Rejected) (w : Result (Option ℕ) Refusal) → IfOk r (λ n. n ≤ m) → IfOk (counted k r w) (λ n. n ≤ m + 1)
counted_few k m (Err r) w h = tt
counted_few k m (Ok n) (Err f) h = tt
counted_few k m (Ok n) (Ok None) h = omega arith
counted_few k m (Ok n) (Ok (Some w)) h = omega arith

-- ---- The place: it goes by the line alone, not by its values

module _ (v : Tree → Value) where
  words_valued : (s : Statement Tree) → words_in (valued_statement v s) ≡ words_in s
  unfolding words_in valued_statement
  words_valued no_statement = refl
  words_valued (of_row k p) = refl

  pub after_valued : (p : Place) (l : ReadLine Tree) → after p (valued v l) ≡ after p l
  unfolding after valued
  after_valued p outside = refl
  after_valued p (reads l) =
      ap (λ (k : ℕ). record { names = p.names ++ new_labels p l.label; address = p.address + 2 * k }) (words_valued l.statement)

  pub admitted_valued : (p : Place) (l : ReadLine Tree) → admitted p (valued v l) ≡ valued v (admitted p l)
  unfolding admitted valued
  admitted_valued p outside = refl
  admitted_valued p (reads l) = go (crowded p l.label)
    where
      go : (b : Bool) → pick b outside (valued v (reads l)) ≡ valued v (pick b outside (reads l))
      go true = refl
      go false = refl
