-- Literals, a digit at a time.
-- Assumes nothing.
use Rattle.std.proofs.Common.{◌≡◌, ℕ, ◌+◌, ◌*◌, ◌/◌, ◌%◌, ◌<◌, ◌≤◌, Bool, true, false, ltb, List, [], ◌∷◌, length, get_or, drop, Option, Some, None, sym, refl, ap, ◌∙◌, add-mul, mul_right_comm, add-one, drop-cons, drop_of_length-le, lt-ltb, arith}
use Rattle.std.specs.Char.{digit_value}
use Rattle.std.specs.Option.{option_map}
use Rattle.std.specs.List.{slice_get}
use Rattle.std.proofs.lemmas.Bool.Decides.{nat_tests}
use native.Mathlib.Nat.{mod-add-div', add_right_comm, add-mul-mod_self_right}
use Rattle.word.specs.Word.{pick}
use Rattle.word.proofs.Tests.{clash}
use Rattle.token.specs.Tokens.{Token, between, is_digit, is_letter}
use Rattle.expression.specs.declared.Value.{Value}
use Rattle.expression.specs.Operands.{Label, digit_of, all_digits, numeral, hexed, is_literal, literal_word, is_name, name_value, is_operand, operand_value}
use Rattle.expression.specs.Grammar.{operand, value_of}
use Rattle.expression.specs.Reading.{reduced, number_leaf, literal_leaf, leaf_of, refused, read, mapped, leaf}

-- ---- Digits

pub digit_good : (b base : ℕ) → base ≤ 16 → digit_value b < base → digit_of b ≡ digit_value b
unfolding digit_of between
digit_good b base h l = grind (arith, nat_tests)

pub digit_bad : (b base : ℕ) → base ≤ 16 → (digit_value b < base → ⊥) → ltb (digit_of b) base ≡ false
unfolding digit_of between
digit_bad b base h n = grind (arith, nat_tests)

-- ---- Numbers are reduced at each digit

reduce : (n base d : ℕ) → (n % 65536 * base + d) % 65536 ≡ (n * base + d) % 65536
reduce n base d = go (n / 65536) (n % 65536) (sym (mod-add-div' n 65536))
  where
    go : (q r : ℕ) → n ≡ r + q * 65536 → (r * base + d) % 65536 ≡ (n * base + d) % 65536
    go q r e =
        rw (e, add-mul r (q * 65536) base, mul_right_comm q 65536 base, add_right_comm (r * base) (q * base * 65536) d, add-mul-mod_self_right (r * base + d) (q * base) 65536)

reduced_is : (base n : ℕ) (w : List ℕ) → reduced base (n % 65536) w ≡ numeral base n w % 65536
unfolding reduced numeral
reduced_is base n [] = refl
reduced_is base n (b ∷ w) = rw (reduce n base (digit_of b)) (reduced_is base (n * base + digit_of b) w)

number_is : (base : ℕ) (w : List ℕ) → number_leaf base 0 w ≡ pick (all_digits base w) (Some (numeral base 0 w % 65536)) None
unfolding number_leaf
number_is base w = rw (← reduced_is base 0 w)

literal_is : (w : Token) → literal_leaf w ≡ pick (is_literal w) (Some (literal_word w)) None
unfolding literal_leaf is_literal literal_word
literal_is w = rw (number_is 16 (drop 2 w), number_is 10 w) (go (hexed w))
  where
    go : (b : Bool)
        → pick b (pick (all_digits 16 (drop 2 w)) (Some (numeral 16 0 (drop 2 w) % 65536)) None) (pick (all_digits 10 w) (Some (numeral 10 0 w % 65536)) None)
        ≡ pick (pick b (all_digits 16 (drop 2 w)) (all_digits 10 w)) (Some (pick b (numeral 16 0 (drop 2 w) % 65536) (numeral 10 0 w % 65536))) None
    go true = refl
    go false = refl

-- after the first digits, which make n
module _ (s : List ℕ) (base n i : ℕ) where
  pub counted : length s ≤ i → number_leaf base n (drop i s) ≡ Some n
  unfolding number_leaf all_digits reduced
  counted h = rw (drop_of_length-le s h)

  module _ (l : i < length s) (h : base ≤ 16) where
    next : drop i s ≡ get_or s i 0 ∷ drop (i + 1) s
    next = rw (add-one, drop-cons s i 0)

    pub digit_stop : (digit_value (get_or s i 0) < base → ⊥) → number_leaf base n (drop i s) ≡ None
    unfolding number_leaf all_digits
    digit_stop b = rw (next, digit_bad (get_or s i 0) base h b)

    pub digit_more :
        (d m : ℕ) → digit_value (get_or s i 0) < base → d ≡ digit_value (get_or s i 0) → m ≡ (n * base % 65536 + d) % 65536
        → number_leaf base n (drop i s) ≡ number_leaf base m (drop (i + 1) s)
    unfolding number_leaf all_digits reduced
    digit_more d m b e q =
        let g : digit_of (get_or s i 0) ≡ d = digit_good (get_or s i 0) base h b ∙ sym e in
        let k : (n * base + digit_of (get_or s i 0)) % 65536 ≡ m = omega arith in
        let j : digit_of (get_or s i 0) < base = omega arith in
        rw (next, lt-ltb _ _ j)
        (ap (λ (x : ℕ). pick (all_digits base (drop (i + 1) s)) (Some (reduced base x (drop (i + 1) s))) None) k)

-- ---- Operands

-- what `first` says
pub first_byte : (w : Token) {b : ℕ} → Some b ≡ slice_get w 0 → get_or w 0 0 ≡ b
first_byte [] e = clash (cc)
first_byte (c ∷ t) e = cc

module _ (names : List Label) (w : Token) where
  pub leaf_digit : is_digit (get_or w 0 0) ≡ true → leaf_of names w ≡ option_map (λ n. record { word = n; known = true }) (literal_leaf w)
  unfolding leaf_of is_operand operand_value
  leaf_digit d = rw (d, literal_is w) (go (is_literal w))
    where
      go : (b : Bool)
          → ◌≡◌ {A = Option Value} (pick b (Some (record { word = literal_word w; known = true })) None)
          (option_map (λ n. record { word = n; known = true }) (pick b (Some (literal_word w)) None))
      go true = refl
      go false = refl

  pub leaf_other : is_digit (get_or w 0 0) ≡ false → leaf_of names w ≡ pick (is_name w) (Some (name_value names w)) None
  unfolding leaf_of is_operand operand_value
  leaf_other d = rw d

  pub leaf_empty : None ≡ slice_get w 0 → None ≡ leaf_of names w
  unfolding leaf_of is_operand is_name is_digit is_letter between
  leaf_empty e = go w e
    where
      go : (w : Token) → None ≡ slice_get w 0 → None ≡ leaf_of names w
      go [] e = refl
      go (b ∷ t) e = clash (cc)

  module _ (r : List Token) where
    pub leaf_none : None ≡ leaf_of names w → mapped (value_of (operand_value names)) (leaf w r) ≡ refused
    unfolding leaf_of leaf mapped
    leaf_none e = go (is_operand w) e
      where
        go : (b : Bool) → ◌≡◌ {A = Option Value} None (pick b (Some (operand_value names w)) None)
            → mapped (value_of (operand_value names)) (pick b (read (operand w) r) refused) ≡ refused
        go true g = clash (cc)
        go false g = refl

    pub leaf_some : {v : Value} → Some v ≡ leaf_of names w → mapped (value_of (operand_value names)) (leaf w r) ≡ read v r
    unfolding leaf_of leaf mapped value_of
    leaf_some {v} e = go (is_operand w) e
      where
        go : (b : Bool) → ◌≡◌ {A = Option Value} (Some v) (pick b (Some (operand_value names w)) None)
            → mapped (value_of (operand_value names)) (pick b (read (operand w) r) refused) ≡ read v r
        go true g = cc
        go false g = clash (cc)

-- the steps of `number`, of `leaf_of` and of `leaf`
pub ruleset digit_steps = (counted, digit_stop, digit_more)

pub ruleset first_bytes = (first_byte, leaf_digit, leaf_other, leaf_empty)

pub ruleset leaves = (leaf_none, leaf_some)
