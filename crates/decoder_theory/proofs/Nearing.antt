-- Half rounds on a word with few heavy lines: while it is not the word of the code, it comes nearer.
use Rattle.std.proofs.Common.{◌≡◌, ℕ, zero, suc, ◌+◌, ◌<◌, ◌≤◌, ◌≢◌, List, length, None, ap, ◌∙◌, arith}
use native.Mathlib.Decide.{dec_le}
use Rattle.graph_code.specs.declared.side.Side.{Side}
use Rattle.graph_code.specs.declared.side.Side.TheVariants.{Lines, Points}
use Rattle.graph_code.specs.Model.{GraphModel, GraphLaws, symbols}
use Rattle.graph_code.specs.Sides.{side, other}
use Rattle.graph_code.specs.Words.{CodeWord, first_failing}
use Rattle.graph_code.specs.Rounds.{after_round, turn_after, rounds}
use Rattle.graph_code.proofs.SideLaws.{side_laws, other_other}
use Rattle.graph_code.proofs.Passing.{none_fails}
use Rattle.graph_code.proofs.HalfRounds.{length_half}
use Rattle.decoder_theory.specs.Bounds.{beyond, wrong, heavy_lines, BothShrink}
use Rattle.decoder_theory.specs.Correction.{wrong_after}
use Rattle.decoder_theory.proofs.Faults.{half_le, pass_le, none_wrong, none_beyond}
use Rattle.decoder_theory.proofs.Shrinking.{shrink, settled_same}

module _ (k : GraphModel) (laws : GraphLaws k) (b : ℕ) (both : BothShrink k b) (c : List ℕ) (code : CodeWord k c) where
  -- the vertices of a side with more faults than its code can put right
  abbrev bad : Side → List ℕ → ℕ
  bad s x = beyond (side k s) (side k s).code.radius c x

  half_wrong : (s : Side) (x : List ℕ) → wrong (side k s) c (after_round k s x) ≤ bad s x
  half_wrong s x = half_le (side k s) (symbols k) (side_laws k laws s) c x (code.passes s)

  other_bad : (s : Side) (x : List ℕ) → 0 < wrong (side k s) c x → wrong (side k s) c x ≤ b → bad (other s) x < wrong (side k s) c x
  other_bad Points x p q = shrink (side k Lines) (side k Points) (symbols k) (side_laws k laws Lines) (side_laws k laws Points) k.line_code.radius b both.lines c x p q
  other_bad Lines x p q = shrink (side k Points) (side k Lines) (symbols k) (side_laws k laws Points) (side_laws k laws Lines) k.point_code.radius b both.points c x p q

  all_right : (s : Side) (x : List ℕ) → length x ≡ symbols k → wrong (side k s) c x ≡ 0 → x ≡ c
  all_right s x l h = none_wrong (side k s) (symbols k) (side_laws k laws s) c x code.size l h

  none_bad : (s : Side) (x : List ℕ) → x ≡ c → bad s x ≡ 0
  none_bad s x e = ap (bad s) e ∙ none_beyond (side k s) (side k s).code.radius c

  -- a word that is wrong only at bad vertices, and few of one side are bad, is the word of the code
  unmoved : (s : Side) (x : List ℕ) → length x ≡ symbols k → ((r : Side) → wrong (side k r) c x ≤ bad r x) → bad s x ≤ b → x ≡ c
  unmoved Lines x l f h =
      settled_same (side k Lines) (side k Points) (symbols k) (side_laws k laws Lines) (side_laws k laws Points) k.line_code.radius k.point_code.radius b
      both.lines both.points c x code.size l (f Lines) (f Points) h
  unmoved Points x l f h =
      settled_same (side k Points) (side k Lines) (symbols k) (side_laws k laws Points) (side_laws k laws Lines) k.point_code.radius k.line_code.radius b
      both.points both.lines c x code.size l (f Points) (f Lines) h

  -- a word that a half round of each side leaves as it was is wrong only at bad vertices
  still : (s : Side) (x : List ℕ) → after_round k (other s) x ≡ x → after_round k s x ≡ x → (r : Side) → wrong (side k r) c x ≤ bad r x
  still Lines x p q Lines = rw q at (half_wrong Lines x)
  still Lines x p q Points = rw p at (half_wrong Points x)
  still Points x p q Lines = rw p at (half_wrong Lines x)
  still Points x p q Points = rw q at (half_wrong Points x)

  module _ (w : List ℕ) (size : length w ≡ symbols k) (few : heavy_lines k c w ≤ b) where
    pub length_rounds : (i : ℕ) → length (rounds k i w) ≡ symbols k
    length_rounds zero = size
    length_rounds (suc i) = length_half (side k (turn_after i)) (symbols k) (rounds k i w)

    -- after i half rounds few vertices of the side in turn are bad, and fewer with each half round while the word is wrong
    record Few (i : ℕ) : Type 0 where
      at_most : bad (turn_after i) (rounds k i w) ≤ b
      fewer : rounds k i w ≢ c → bad (turn_after i) (rounds k i w) + i ≤ heavy_lines k c w

    few_after : (i : ℕ) → Few i
    few_after zero = record { at_most = few; fewer = λ n. omega arith }
    few_after (suc i) =
        let f = few_after i in
        let x = rounds k i w in
        let s = turn_after i in
        let h = half_wrong s x in
        elim (dec_le 1 (wrong (side k s) c (after_round k s x))) [
          | no z ↦
              let e = all_right s (after_round k s x) (length_rounds (suc i)) (omega arith) in
              let zero_bad = none_bad (other s) (after_round k s x) e in
              record { at_most = omega arith; fewer = λ n. absurd (n e) }
          | yes z ↦
              let m = f.at_most in
              let d = other_bad s (after_round k s x) z (omega arith) in
              record {
                at_most = omega arith;
                fewer = λ n. let g = f.fewer (λ e. let y = none_bad s x e in omega arith) in omega arith;
              }
        ]

    -- while the word is wrong, no more half rounds were made than there were heavy lines
    pub rounds_left : (i : ℕ) → rounds k i w ≢ c → i ≤ heavy_lines k c w
    rounds_left i n = let f = (few_after i).fewer n in omega arith

    -- a word that passes everywhere is the word of the code
    pub passing_right : (i : ℕ) → first_failing k (rounds k i w) ≡ None → rounds k i w ≡ c
    passing_right i h =
        let x = rounds k i w in
        unmoved (turn_after i) x (length_rounds i) (λ r. pass_le (side k r) (symbols k) (side_laws k laws r) c x (code.passes r) (none_fails k x h r)) (few_after i).at_most

    -- and so is a word that neither side alters
    pub quiet_right : (i : ℕ) → after_round k (other (turn_after i)) (rounds k i w) ≡ rounds k i w → after_round k (turn_after i) (rounds k i w) ≡ rounds k i w → rounds k i w ≡ c
    quiet_right i p q = unmoved (turn_after i) (rounds k i w) (length_rounds i) (still (turn_after i) (rounds k i w) p q) (few_after i).at_most

    -- while the word is wrong, each half round after the first leaves fewer wrong
    pub falling : (i : ℕ) → 1 ≤ i → rounds k i w ≢ c → wrong_after k c w (suc i) < wrong_after k c w i
    falling zero h n = absurd (omega arith)
    falling (suc j) h n =
        let x = rounds k (suc j) w in
        let s = turn_after j in
        let f = few_after j in
        let a = f.at_most in
        let p = half_wrong s (rounds k j w) in
        let q = half_wrong (other s) x in
        let r : 0 < wrong (side k s) c x = elim (dec_le 1 (wrong (side k s) c x)) [ yes z ↦ z | no z ↦ absurd (n (all_right s x (length_rounds (suc j)) (omega arith))) ] in
        let d = other_bad s x r (omega arith) in
        rw (other_other s) (omega arith)
