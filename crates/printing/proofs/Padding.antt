-- A text in its array: its bytes, then zeros.
-- Assumes nothing.
use Prim.Native.Nat.{ℕ, ◌+◌, ◌-◌, ◌≤◌}
use mathlib.Core.Path.{◌≡◌, sym, ap, ◌∙◌}
use mathlib.Core.List.{List, ◌++◌}
use native.Mathlib.Omega.{arith}
use lib.ListN.{length, take, drop, replicate, length-append}
use lib.Seq.{length-take-le}
use borrow.Rule.Slice.PartMut.{put_mid}
use Rattle.std.specs.Prelude.{min}
use Rattle.std.proofs.Math.Seq.{drop-append-add}
use Rattle.std.proofs.lemmas.List.{take-append-drop, drop-replicate}
use Rattle.std.proofs.lemmas.Slice.{take-put_mid, drop-put_mid}
use Rattle.printing.specs.Writing.{Wrote}
use Rattle.printing.proofs.Writing.{wrote_word}

-- the first `count` bytes are the text, all others zero
pub record Padded (count : ℕ) (bytes : List ℕ) : Type 0 where
  pub short : count ≤ 4096
  pub text : length (take count bytes) ≡ count
  pub zeros : bytes ≡ take count bytes ++ replicate (4096 - count) 0

pub padded : {count : ℕ} {bytes : List ℕ} → count ≤ 4096 × (length (take count bytes) ≡ count) × (bytes ≡ take count bytes ++ replicate (4096 - count) 0)
    → Padded count bytes
padded h = record { short = h.0; text = h.1; zeros = h.2 }

pub full : (room : ℕ) (source : List ℕ) {fits : ℕ} {word : List ℕ} → word ≡ take fits source → fits ≡ min (length source) room → length word ≡ fits
full room source {fits} e least = ap (λ l. length l) e ∙ length-take-le fits source (omega (arith, least))

module _ {count fits part : ℕ} {bytes : List ℕ} (word : List ℕ) (p : Padded count bytes) (long : length bytes ≡ 4096) (room : count + fits ≤ 4096)
    (same : part ≡ fits) (full : length word ≡ fits) where
  text_after : take (count + fits) (put_mid count part bytes word) ≡ take count bytes ++ word
  text_after = take-put_mid count part bytes word (count + fits) (omega (arith, full)) (omega (arith, long, p.short))

  zeros_after : drop (count + fits) (put_mid count part bytes word) ≡ replicate (4096 - (count + fits)) 0
  zeros_after =
      let left : 4096 - count - fits ≡ 4096 - (count + fits) = omega arith in
      drop-put_mid count part bytes word (count + fits) (omega (arith, same)) (omega (arith, long, p.short)) (omega (arith, same, full))
      ∙ ap (λ l. drop (count + fits) l) p.zeros
      ∙ ap (λ n. drop (n + fits) (take count bytes ++ replicate (4096 - count) 0)) (sym p.text)
      ∙ drop-append-add (take count bytes) (replicate (4096 - count) 0) fits
      ∙ drop-replicate fits (4096 - count) 0
      ∙ ap (λ n. replicate n 0) left

  pub padded_after : Padded (count + fits) (put_mid count part bytes word)
  padded_after =
      record {
        short = room;
        text = ap (λ l. length l) text_after ∙ length-append (take count bytes) word ∙ omega (arith, p.text, full);
        zeros =
            sym (take-append-drop (count + fits) (put_mid count part bytes word))
            ∙ ap (λ l. take (count + fits) (put_mid count part bytes word) ++ l) zeros_after;
      }

  pub wrote_after : {text source : List ℕ} → take count bytes ≡ text → word ≡ take fits source → fits ≡ min (length source) (4096 - count)
      → Wrote (length source) source text (take (count + fits) (put_mid count part bytes word))
  wrote_after {text} {source} shown whole least =
      let held : length text ≡ count = ap (λ l. length l) (sym shown) ∙ p.text in
      let e : fits ≡ min (4096 - length text) (length source) = omega (arith, least, held) in
      wrote_word (text_after ∙ ap (λ l. l ++ word) shown ∙ ap (λ l. text ++ l) (whole ∙ ap (λ n. take n source) e))
