-- `product` and `sum`: what the first of several ranks reads, and then the operators of the others, from the tightest on.
-- Assumes nothing.
use Rattle.std.proofs.Common.{◌≡◌, ℕ, zero, suc, ◌+◌, ◌-◌, ◌<◌, ◌≤◌, Bool, true, false, eqb, List, length, sym, refl, ap, ◌∙◌, subst, arith, eqb-true, Some, None}
use borrow.Author.Tests.{eqb-false}
use Rattle.word.proofs.Tests.{clash}
use Rattle.token.specs.Tokens.{Token}
use Rattle.token.specs.Scan.{tokens_at}
use Rattle.expression.specs.declared.Value.{Value}
use Rattle.expression.specs.declared.Parsed.{Parsed}
use Rattle.expression.specs.declared.Join.{Join}
use Rattle.expression.specs.Operands.{rank_of, operated}
use Rattle.expression.specs.Grammar.{Tree, operation, value_of}
use Rattle.expression.specs.Reading.{rank, shown_operator, Out, refused, read, bind, mapped, follow, chain, ranked, parse, told, head_rank, Between}
use Rattle.expression.proofs.Laws.{Within, follow_stop, follow_more, within_parse}

-- ---- What a mapped reading comes from

module _ {A B : Type 0} (f : A → B) where
  pub from_read : (o : Out A) {v : B} {r : List Token} → mapped f o ≡ read v r → (t : A) × (o ≡ read t r) × (f t ≡ v)
  unfolding mapped
  from_read refused e = clash (cc)
  from_read (read t q) e = (t, cc, cc)

  pub from_refused : (o : Out A) → mapped f o ≡ refused → o ≡ refused
  unfolding mapped
  from_refused refused e = refl
  from_refused (read t q) e = clash (cc)

-- ---- Operators of several ranks

chain_at : (d k : ℕ) → 1 ≤ k → (ts : List Token) → parse d k ts ≡ bind (parse d (k - 1) ts) (follow (parse d (k - 1)) k)
unfolding parse ranked chain
chain_at d zero n ts = absurd (omega arith)
chain_at d (suc k) n ts = let e : suc k - 1 ≡ k = omega arith in rw e

-- what the operators of the n ranks from low on make of what was read
unfoldable pub climb : ℕ → ℕ → ℕ → Out Tree → Out Tree
climb d low zero o = o
climb d low (suc n) o = climb d (suc low) n (bind o (follow (parse d (low - 1)) low))

climb_parse : (d j n : ℕ) (ts : List Token) → parse d (j + n) ts ≡ climb d (suc j) n (parse d j ts)
unfolding climb
climb_parse d j zero ts = ap (λ (k : ℕ). parse d k ts) (omega arith)
climb_parse d j (suc n) ts =
    let e : suc j - 1 ≡ j = omega arith in
    ap (λ (k : ℕ). parse d k ts) (omega arith)
    ∙ climb_parse d (suc j) n ts
    ∙ ap (climb d (suc (suc j)) n)
    (chain_at d (suc j) (omega arith) ts ∙ ap (λ (k : ℕ). bind (parse d k ts) (follow (parse d (suc j - 1)) (suc j))) e)

climb_from : (d j k : ℕ) → j ≤ k → (ts : List Token) → parse d k ts ≡ climb d (suc j) (k - j) (parse d j ts)
climb_from d j k h ts = let e : k ≡ j + (k - j) = omega arith in ap (λ (x : ℕ). parse d x ts) e ∙ climb_parse d j (k - j) ts

climb_refused : (d low n : ℕ) → climb d low n refused ≡ refused
unfolding climb bind
climb_refused d low zero = refl
climb_refused d low (suc n) = climb_refused d (suc low) n

-- ranks that no operator there has are passed by
climb_skip :
    (d low n : ℕ) (t : Tree) (r : List Token) (to m : ℕ) → low + n ≡ to + m → low ≤ to → ((k : ℕ) → low ≤ k → k < to → head_rank r ≡ k → ⊥)
    → climb d low n (read t r) ≡ climb d to m (read t r)
unfolding climb bind
climb_skip d low zero t r to m e h f =
    let p : low ≡ to = omega arith in
    let q : 0 ≡ m = omega arith in
    ap (λ (x : ℕ). climb d x 0 (read t r)) p ∙ ap (λ (x : ℕ). climb d to x (read t r)) q
climb_skip d low (suc n) t r to m e h f =
    go (eqb low to) refl (λ l. climb_skip d (suc low) n t r to m (omega arith) l (λ k a b. f k (omega arith) b))
  where
    go : (b : Bool) → eqb low to ≡ b → (suc low ≤ to → climb d (suc low) n (read t r) ≡ climb d to m (read t r)) → climb d low (suc n) (read t r) ≡ climb d to m (read t r)
    go true q g =
        let p : low ≡ to = eqb-true low to q in
        let z : suc n ≡ m = omega arith in
        ap (λ (x : ℕ). climb d x (suc n) (read t r)) p ∙ ap (λ (x : ℕ). climb d to x (read t r)) z
    go false q g =
        let l : suc low ≤ to = omega (arith, eqb-false low to q) in
        ap (climb d (suc low) n) (follow_stop (parse d (low - 1)) low t r (f low (omega arith) (omega arith))) ∙ g l

-- ---- The loop

-- with what was read so far, of rank `first` to begin with, after which operators of the ranks from low to k may follow
pub record Climbing (mean : Token → Value) (s : List ℕ) (d first k low : ℕ) (ts : List Token) (a : Parsed) : Type 0 where
  pub tree : Tree
  pub above : ℕ
  pub least : first < low
  pub ranks : low + above ≡ suc k
  pub same : parse d k ts ≡ climb d low above (read tree (tokens_at s a.next))
  pub value : value_of mean tree ≡ a.value

module _ (mean : Token → Value) (s : List ℕ) (d first k : ℕ) (h : first ≤ k) (ts : List Token) where
  pub starts : {a : Parsed} → told s (Some a) ≡ mapped (value_of mean) (parse d first ts) → Climbing mean s d first k (suc first) ts a
  unfolding told
  starts {a} e =
      let (t, p, q) = from_read (value_of mean) (parse d first ts) (sym e) in
      record {
        tree = t;
        above = k - first;
        least = omega arith;
        ranks = omega arith;
        same = climb_from d first k h ts ∙ ap (climb d (suc first) (k - first)) p;
        value = q;
      }

  -- nothing of rank `first`
  pub starts_not : told s None ≡ mapped (value_of mean) (parse d first ts) → told s None ≡ mapped (value_of mean) (parse d k ts)
  unfolding told mapped
  starts_not e =
      let p = from_refused (value_of mean) (parse d first ts) (sym e) in
      let q : parse d k ts ≡ refused = climb_from d first k h ts ∙ ap (climb d (suc first) (k - first)) p ∙ climb_refused d (suc first) (k - first) in
      rw q

-- where operators of one rank were asked for
pub one_rank : {s : List ℕ} {at k : ℕ} {j : Join} → Between s at k k (Some j) → k ≡ rank_of (shown_operator j.operator)
one_rank h = omega (arith, h.1, h.2)

module _ {mean : Token → Value} {s : List ℕ} {d first k low : ℕ} {ts : List Token} {a : Parsed} (i : Climbing mean s d first k low ts a) where
  pub climb_stops : Between s a.next low k None → told s (Some a) ≡ mapped (value_of mean) (parse d k ts)
  unfolding told climb mapped
  climb_stops h =
      let none = climb_skip d low i.above i.tree (tokens_at s a.next) (low + i.above) 0 (omega arith) (omega arith) (λ n l m. h n l (omega (arith, i.ranks))) in
      rw (i.same, none, i.value)

  module _ {j : Join} (h : Between s a.next low k (Some j)) {q : ℕ} (z : q ≡ rank_of (shown_operator j.operator)) where
    head : head_rank (tokens_at s a.next) ≡ q
    unfolding head_rank
    head = ap head_rank h.0.split ∙ h.0.ranks ∙ sym z

    at_rank : rank h.0.mark ≡ q
    at_rank = h.0.ranks ∙ sym z

    low_rank : low ≤ q
    low_rank = omega (arith, h.1)

    high_rank : q ≤ k
    high_rank = omega (arith, h.2)

    -- at the rank of the operator
    here : parse d k ts ≡ climb d (suc q) (k - q) (bind (parse d (q - 1) (tokens_at s j.end))
        (λ y r. follow (parse d (q - 1)) q (operation (shown_operator j.operator) i.tree y) r))
    unfolding climb bind
    here =
        i.same
        ∙ climb_skip d low i.above i.tree (tokens_at s a.next) q (suc (k - q)) (omega (arith, i.ranks, low_rank, high_rank)) low_rank (λ n l u o. omega (arith, head))
        ∙ ap (climb d (suc q) (k - q))
        (rw h.0.split (follow_more (parse d (q - 1)) q (within_parse d (q - 1)) i.tree h.0.mark (tokens_at s j.end) at_rank ∙ rw h.0.same))

    pub climb_refuses : told s None ≡ mapped (value_of mean) (parse d (q - 1) (tokens_at s j.end)) → told s None ≡ mapped (value_of mean) (parse d k ts)
    unfolding told bind mapped
    climb_refuses e = rw (here, from_refused (value_of mean) _ (sym e), climb_refused d (suc q) (k - q))

    module _ (b : Parsed) (e : told s (Some b) ≡ mapped (value_of mean) (parse d (q - 1) (tokens_at s j.end))) where
      pub climbs : {r : Parsed} → r.value ≡ operated (shown_operator j.operator) a.value b.value → r.next ≡ b.next → Climbing mean s d first k q ts r
      unfolding told climb bind value_of
      climbs {r} f g =
          let (y, p, w) = from_read (value_of mean) (parse d (q - 1) (tokens_at s j.end)) (sym e) in
          record {
            tree = operation (shown_operator j.operator) i.tree y;
            above = suc (k - q);
            least = omega (arith, i.least, low_rank);
            ranks = omega (arith, high_rank);
            same = here ∙ ap (λ o. climb d (suc q) (k - q) (bind o (λ y r. follow (parse d (q - 1)) q (operation (shown_operator j.operator) i.tree y) r))) p ∙ rw g;
            value = rw (i.value, w, f);
          }

      -- an operator and its right operand take tokens
      pub less : length (tokens_at s b.next) < length (tokens_at s a.next)
      unfolding told
      less =
          let (y, p, w) = from_read (value_of mean) (parse d (q - 1) (tokens_at s j.end)) (sym e) in
          let n : length (tokens_at s b.next) ≤ length (tokens_at s j.end) =
          subst (Within (length (tokens_at s j.end))) p (within_parse d (q - 1) (tokens_at s j.end)) in
          rw h.0.split (omega arith)

-- the steps of `product` and `sum`
pub ruleset climb_steps = (starts, starts_not, climbs)
