-- A half round of an admitted word leaves an admitted word.
use Rattle.std.proofs.Common.{◌≡◌, ℕ, ◌<◌, List, get_or, Some, None, Ok, Option, sym, refl, arith}
use Rattle.component.specs.Decoding.{decoded, kept_or}
use Rattle.component.proofs.Search.{decoded_near, word_codes}
use Rattle.graph_code.specs.declared.side.Side.{Side}
use Rattle.graph_code.specs.declared.side.Side.TheVariants.{Lines, Points}
use Rattle.graph_code.specs.Model.{GraphModel, GraphLaws, symbols, symbol_order}
use Rattle.graph_code.specs.Sides.{SideModel, side}
use Rattle.graph_code.specs.Words.{seen}
use Rattle.graph_code.specs.Rounds.{settled_at, half_round, after_round}
use Rattle.graph_code.specs.Checks.{admitted}
use Rattle.graph_code.proofs.SideLaws.{SideLaws, side_laws}
use Rattle.graph_code.proofs.Admission.{Stands, stands, admits, admitted_from}
use Rattle.graph_code.proofs.HalfRounds.{length_half, get_or_half, get_or_seen}

module _ (σ : SideModel) (n q : ℕ) (laws : SideLaws σ n) (size : σ.code.size ≡ σ.degree) (order : σ.code.field.order ≡ q) (w : List ℕ)
    (codes : (e : ℕ) → e < n → get_or w e 0 < q) where
  -- a decoded vertex has codes since its word is one of the code, and one that refuses keeps its own
  pub settled_codes : (v i : ℕ) → v < σ.vertices → i < σ.degree → get_or (settled_at σ w v) i 0 < q
  settled_codes v i l m = go (decoded σ.code (seen σ v w)) refl
    where
      go : (o : Option (List ℕ)) → decoded σ.code (seen σ v w) ≡ o → get_or (kept_or (seen σ v w) o) i 0 < q
      go (Some ys) h =
          let p = decoded_near σ.code (seen σ v w) ys h in
          let c = word_codes σ.code ys p.0 i (rw size m) in
          omega arith
      go None h = rw (get_or_seen σ v w i m) (codes (σ.edge v i) (laws.edge_in v i l m))

  codes_after : (e : ℕ) → e < n → get_or (half_round σ n w) e 0 < q
  codes_after e l = rw (get_or_half σ n w e l) (settled_codes (σ.vertex e) (σ.seat e) (laws.vertex_in e l) (laws.seat_in e l))

pub side_size : (k : GraphModel) → Stands k → (s : Side) → (side k s).code.size ≡ (side k s).degree
side_size k h Lines = h.line_size
side_size k h Points = h.point_size

pub side_order : (k : GraphModel) → Stands k → (s : Side) → (side k s).code.field.order ≡ symbol_order k
side_order k h Lines = sym h.one_order
side_order k h Points = refl

pub round_admitted : (k : GraphModel) → GraphLaws k → (s : Side) (w : List ℕ) → admitted k w ≡ Ok tt → admitted k (after_round k s w) ≡ Ok tt
round_admitted k laws s w h =
    let a = admits k w h in
    let b = stands k a.code_stands in
    admitted_from k (after_round k s w) (record {
      code_stands = a.code_stands;
      size = length_half (side k s) (symbols k) w;
      codes = codes_after (side k s) (symbols k) (symbol_order k) (side_laws k laws s) (side_size k b s) (side_order k b s) w a.codes;
    })
