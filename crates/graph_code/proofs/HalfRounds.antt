-- The word after a half round.
use Rattle.std.proofs.Common.{◌≡◌, ℕ, ◌<◌, List, length, get_or, sym, ap, ◌∙◌, arith}
use native.Mathlib.Decide.{dec_le}
use Rattle.std.proofs.lemmas.List.{ext_get_or}
use Rattle.ranges.specs.Ranges.{apart, differ}
use Rattle.ranges.proofs.Sums.{sum_pick}
use Rattle.ranges.proofs.Tests.{length_tabulate, get_d_tabulate, apart_zero, over_one}
use Rattle.graph_code.specs.Sides.{SideModel}
use Rattle.graph_code.specs.Words.{seen}
use Rattle.graph_code.specs.Rounds.{settled_at, half_round, altered_at, alterations}
use Rattle.graph_code.proofs.SideLaws.{SideLaws}

-- two words of n symbols that differ nowhere are equal
pub same_words : (n : ℕ) (x y : List ℕ) → length x ≡ n → length y ≡ n → ((e : ℕ) → e < n → get_or x e 0 ≡ get_or y e 0) → x ≡ y
same_words n x y p q h = ext_get_or 0 x y (p ∙ sym q) (λ i l. h i (omega arith))

pub length_half : (σ : SideModel) (n : ℕ) (w : List ℕ) → length (half_round σ n w) ≡ n
unfolding half_round
length_half σ n w = length_tabulate n (λ e. get_or (settled_at σ w (σ.vertex e)) (σ.seat e) 0)

pub get_or_half : (σ : SideModel) (n : ℕ) (w : List ℕ) (e : ℕ) → e < n → get_or (half_round σ n w) e 0 ≡ get_or (settled_at σ w (σ.vertex e)) (σ.seat e) 0
unfolding half_round
get_or_half σ n w e h = get_d_tabulate n (λ e. get_or (settled_at σ w (σ.vertex e)) (σ.seat e) 0) e 0 h

pub get_or_seen : (σ : SideModel) (v : ℕ) (w : List ℕ) (i : ℕ) → i < σ.degree → get_or (seen σ v w) i 0 ≡ get_or w (σ.edge v i) 0
get_or_seen σ v w i h = get_d_tabulate σ.degree (λ i. get_or w (σ.edge v i) 0) i 0 h

module _ (σ : SideModel) (n : ℕ) (laws : SideLaws σ n) where
  -- the symbol of an edge is what its vertex sees at its seat
  pub seen_edge : (w : List ℕ) (e : ℕ) → e < n → get_or (seen σ (σ.vertex e) w) (σ.seat e) 0 ≡ get_or w e 0
  seen_edge w e h = get_or_seen σ (σ.vertex e) w (σ.seat e) (laws.seat_in e h) ∙ ap (λ x. get_or w x 0) (laws.edge_vertex e h)

  -- where no vertex is altered, each seat has the symbol that it had
  kept_at : (w : List ℕ) (v i : ℕ) → alterations σ w ≡ 0 → v < σ.vertices → i < σ.degree → get_or (settled_at σ w v) i 0 ≡ get_or (seen σ v w) i 0
  unfolding alterations
  kept_at w v i h l m =
      let p = sum_pick σ.vertices (altered_at σ w) v l in
      let q = sum_pick σ.degree (λ j. apart (get_or (seen σ v w) j 0) (get_or (settled_at σ w v) j 0)) i m in
      elim (dec_le 1 (differ σ.degree (seen σ v w) (settled_at σ w v))) [
        | yes z ↦ absurd (omega (arith, over_one 0 (differ σ.degree (seen σ v w) (settled_at σ w v)) z))
        | no z ↦ sym (apart_zero (get_or (seen σ v w) i 0) (get_or (settled_at σ w v) i 0) (omega arith))
      ]

  -- a half round that alters no vertex leaves the word as it was
  pub unaltered : (w : List ℕ) → length w ≡ n → alterations σ w ≡ 0 → half_round σ n w ≡ w
  unaltered w size h =
      same_words n (half_round σ n w) w (length_half σ n w) size
      (λ e l. get_or_half σ n w e l ∙ kept_at w (σ.vertex e) (σ.seat e) h (laws.vertex_in e l) (laws.seat_in e l) ∙ seen_edge w e l)
