-- By the assembler's reply, then by the save's; and the file is a part of the destination.
-- Assumes nothing.
use Prim.Native.Nat.{ℕ, ◌≤◌}
use mathlib.Core.Path.{◌≡◌, refl, sym, ap, subst, ◌∙◌}
use mathlib.Core.List.{List}
use native.Mathlib.Omega.{arith}
use lib.ListN.{length, replicate}
use Rattle.std.specs.Prelude.{Result, Ok, Err, IfOk, MatchResult, IsErrAnd}
use Rattle.machine.specs.declared.State.{State}
use Rattle.machine.specs.Machine.{reset}
use Rattle.refusal.specs.declared.Refusal.{Refusal}
use Rattle.refusal.specs.Refusals.{refusal_number}
use Rattle.save.specs.Saved.{shown_saving, SaveReply, saved, save_refused, SaveGiven, SaveLeft, save_left}
use Rattle.save.proofs.Files.{saves}
use Rattle.diagnostic.specs.Diagnostic.{diagnostic_of}
use Rattle.assembler.specs.Text.{Reply, words, text_refused, AssembleLeft, assemble_left}
use Rattle.trimfile.specs.TrimFile.{FileLeft, saved_by, saved_left, assembled_by, file_left}

pub left_is : {t t' : Result ℕ (List ℕ)} {d : List ℕ} → t ≡ t' → ◌≡◌ {A = FileLeft} (record { trim = t; destination = d }) (record { trim = t'; destination = d })
left_is {d} e = ap (λ (x : Result ℕ (List ℕ)). record { trim = x; destination = d }) e

-- what the save is given
abbrev given_in : State → List ℕ → List ℕ → SaveGiven
given_in s P destination = record { state = s; P = P; D = replicate 65536 0; destination = destination }

abbrev given_by : List ℕ → List ℕ → SaveGiven
given_by P destination = given_in reset P destination

pub by_save : (text P destination : List ℕ) {state : State} {s : SaveLeft} {x : SaveReply} {t : Result ℕ (List ℕ)}
    → state ≡ reset → s ≡ save_left (given_in state P destination) → s.reply ≡ x → t ≡ saved_by text x
    → ◌≡◌ {A = FileLeft} (record { trim = t; destination = s.destination }) (saved_left text P destination)
unfolding saved_left
by_save text P destination {s = s} z e k p =
    left_is (p ∙ ap (saved_by text) (sym k))
    ∙ ap (λ (s : SaveLeft). record { trim = saved_by text s.reply; destination = s.destination }) (e ∙ ap (λ (z : State). save_left (given_in z P destination)) z)

-- what `map_err` makes of the save's answer
pub mapped : (text : List ℕ) (x : Result ℕ Refusal) {t : Result ℕ (List ℕ)} {P : Refusal → List ℕ → Type 0}
    → ((r : Refusal) (d : List ℕ) → P r d → d ≡ diagnostic_of text 0 (refusal_number r))
    → MatchResult x (λ n. t ≡ Ok n) (λ r. IsErrAnd t (P r)) → t ≡ saved_by text (shown_saving x)
mapped text (Ok n) says m = m
mapped text (Err r) {t = Ok n} says m = absurd m
mapped text (Err r) {t = Err d} says m = ap Err (says r d m)

pub by_assembly : (text destination : List ℕ) {a : AssembleLeft} {x : Reply} {l : FileLeft}
    → a ≡ assemble_left text (replicate 65536 0) → a.reply ≡ x → l ≡ assembled_by text x a.program destination → l ≡ file_left text destination
unfolding file_left
by_assembly text destination {a} e k p =
    p ∙ ap (λ (x : Reply). assembled_by text x a.program destination) (sym k)
    ∙ ap (λ (a : AssembleLeft). assembled_by text a.reply a.program destination) e

-- ---- What a program that writes the file needs

-- the file is a part of the destination
abbrev pub Fits : List ℕ → Result ℕ (List ℕ) → Type 0
Fits destination t = IfOk t (λ n. n ≤ length destination)

save_fits : (text P destination : List ℕ) → Fits destination (saved_left text P destination).trim
unfolding saved_left
save_fits text P destination = go (save_left (given_by P destination)).reply refl
  where
    go : (x : SaveReply) → (save_left (given_by P destination)).reply ≡ x → Fits destination (saved_by text x)
    go (saved n) e = let found = (saves (given_by P destination) n).0 e in omega (arith, found.0, found.2)
    go (save_refused number) e = tt

pub fits : (text destination : List ℕ) {t : Result ℕ (List ℕ)} {d : List ℕ} → record { trim = t; destination = d } ≡ file_left text destination → Fits destination t
unfolding file_left
fits text destination {t} e = subst (Fits destination) (sym (ap (λ (l : FileLeft). l.trim) e)) (go (assemble_left text (replicate 65536 0)).reply (assemble_left text (replicate 65536 0)).program)
  where
    go : (x : Reply) (P : List ℕ) → Fits destination (assembled_by text x P destination).trim
    go (words n) P = save_fits text P destination
    go (text_refused line number) P = tt
