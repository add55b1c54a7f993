use Rattle.std.proofs.Common.{refl}
use Rattle.field.specs.Polynomials.{bit, scaled, poly_product, remainder}
use Rattle.field.specs.Defined.{degree, modulus, solution, defined_sum, defined_neg, defined_prod, defined_inv}
use Rattle.field.specs.Sums.{field_sum}
use Rattle.component.specs.Model.{check_sum, is_word}
use Rattle.component.specs.Decoding.{decoded}
use Rattle.reed_solomon_theory.specs.Code.{power}
use Rattle.bch.specs.Bch.{cube, power_bit}
use Rattle.figures.proofs.figures_stand.Goals as goal

pub returns : goal.returns
unfolding decoded is_word check_sum field_sum power cube power_bit defined_sum defined_neg defined_prod defined_inv degree modulus solution poly_product remainder bit scaled
returns c = record {
  fields = record { product_16 = refl; product_256 = refl; inverse_13 = refl };
  geometries = record {
    euclidean_point = record { first = refl; second = refl; third = refl; none = refl };
    quadrangle_point = record { first = refl; second = refl; third = refl; none = refl };
    projective_line = record { degree = refl; first = refl; second = refl; third = refl };
    projective_point = record { first = refl; second = refl; third = refl; none = refl };
    euclidean_16 = refl;
    euclidean_16_stands = refl;
    projective_16 = refl;
    projective_16_stands = refl;
    quadrangle_8 = refl;
    quadrangle_8_stands = refl;
    quadrangle_11 = refl;
    quadrangle_11_refused = refl;
    euclidean_256_refused = refl;
    euclidean_9_refused = refl;
  };
  codes = record { decoded_1340 = refl; refused_2400 = refl; sixteen_ones = refl };
}
