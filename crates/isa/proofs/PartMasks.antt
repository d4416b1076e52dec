-- The masks that the code makes with a layout are those of the sheet's line, for every kind at once.
-- Assumes nothing.
use mathlib.Core.Path.{◌≡◌, refl, sym, ◌∙◌, ap}
use mathlib.Core.Bool.{Bool}
use mathlib.Core.List.{List, map}
use Prim.Native.Nat.{ℕ, ◌/◌, ◌%◌}
use lib.Bits.{bit_or}
use lib.ListN.{get_or, get_or-map}
use Rattle.word.specs.Word.{pick}
use Rattle.kinds.specs.declared.Kind.{Kind}
use Rattle.kinds.specs.declared.Kind.TheVariants.{And}
use Rattle.kinds.specs.Kinds.{kinds, kind_number}
use Rattle.isa.specs.declared.layout.Form.TheVariants.{Abd}
use Rattle.isa.specs.declared.layout.Layout.{Layout}
use Rattle.isa.specs.Sheet.{sheet_line}
use Rattle.isa.specs.Masks.{register_mask, reads_destination, reads_of, writes_of}
use Rattle.isa.specs.Layouts.{forms, form_of, layout_of, mask_in}
use Rattle.isa.proofs.Every.{listed}

-- the masks of a, b and d, by a layout and by the sheet's line
pub record PartMasks : Type 0 where
  pub a : ℕ
  pub b : ℕ
  pub d : ℕ

abbrev pub by_layout : Layout → ℕ → PartMasks
by_layout m w = record { a = mask_in m.a (w / 512 % 8); b = mask_in m.b (w / 64 % 8); d = mask_in m.d (w / m.weight % 8) }

abbrev pub by_sheet : Kind → ℕ → PartMasks
by_sheet k w = record { a = register_mask (sheet_line k).format.a w; b = register_mask (sheet_line k).format.b w; d = register_mask (sheet_line k).format.d w }

table : map by_sheet kinds ≡ map (λ y. by_layout (layout_of y)) forms
table = refl

pub masks_are : (k : Kind) (w : ℕ) → by_layout (layout_of (form_of k)) w ≡ by_sheet k w
masks_are k w =
    ap (λ (g : ℕ → PartMasks). g w)
    (sym (get_or-map (λ y. by_layout (layout_of y)) forms (kind_number k) (Abd 0))
    ∙ ap (λ (gs : List (ℕ → PartMasks)). get_or gs (kind_number k) (by_sheet And)) (sym table)
    ∙ get_or-map by_sheet kinds (kind_number k) And
    ∙ ap by_sheet (listed k).1)

-- what the code makes of the three masks, where t tells whether the register written is read too
pub touched : (k : Kind) (w : ℕ) (m : Layout) {a b d x : ℕ} {t : Bool} → m ≡ layout_of (form_of k) → a ≡ mask_in m.a (w / 512 % 8)
    → b ≡ mask_in m.b (w / 64 % 8) → d ≡ mask_in m.d (w / m.weight % 8) → t ≡ reads_destination k → x ≡ pick t d 0
    → (bit_or (bit_or a b) x ≡ reads_of k w) × (d ≡ writes_of k w)
touched k w m {a} {b} {d} {x} {t} e p q r s u =
    let f : by_layout m w ≡ by_sheet k w = ap (λ (l : Layout). by_layout l w) e ∙ masks_are k w in
    let fa : a ≡ (by_sheet k w).a = p ∙ ap (λ (x : PartMasks). x.a) f in
    let fb : b ≡ (by_sheet k w).b = q ∙ ap (λ (x : PartMasks). x.b) f in
    let fd : d ≡ (by_sheet k w).d = r ∙ ap (λ (x : PartMasks). x.d) f in
    (λ i. bit_or (bit_or (fa i) (fb i)) ((u ∙ (λ j. pick (s j) (fd j) 0)) i), fd)
