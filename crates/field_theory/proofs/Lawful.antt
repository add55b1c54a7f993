-- What is defined for each listed order is a field.
use Rattle.std.proofs.Common.{ℕ, T, eqb, List, [], ◌∷◌, sym, refl, subst, lit<, lit≤, inl, inr}
use Rattle.std.specs.List.{AllByRecursion}
use Rattle.std.proofs.lemmas.Bool.{eqb-true, or_cases}
use Rattle.field.specs.Polynomials.{bit, scaled, poly_product, remainder}
use Rattle.field.specs.Defined.{among, prime_orders, binary_orders, listed, degree, modulus, defined_prod, defined_field}
use Rattle.field.specs.Laws.{FieldLaws, DefinedFieldsAreLawful}
use Rattle.field_theory.proofs.Scan.{is_true}
use Rattle.field_theory.proofs.Modular.{modular_lawful}
use Rattle.field_theory.proofs.Binary.{binary_lawful}

-- what holds of each number of a list holds of one that is among them
pub each_at : (P : ℕ → Type 0) (xs : List ℕ) → AllByRecursion P xs → (q : ℕ) → T (among q xs) → P q
each_at P [] e q t = absurd t
each_at P (x ∷ xs) e q t = elim (or_cases (eqb q x) (among q xs) (is_true (among q (x ∷ xs)) t)) [
  | inl s ↦ rw (eqb-true q x s) e.0
  | inr s ↦ each_at P xs e.1 q (subst T (sym s) tt)
]

abbrev Lawful : ℕ → Type 0
Lawful q = FieldLaws (defined_field q)

pub prime_lawful : (q : ℕ) → T (among q prime_orders) → Lawful q
unfolding defined_prod
prime_lawful = each_at Lawful prime_orders (
  modular_lawful 2 refl (lit< tt) (lit≤ tt) (0 ∷ 1 ∷ []) refl tt,
  (
    modular_lawful 3 refl (lit< tt) (lit≤ tt) (0 ∷ 1 ∷ 2 ∷ []) refl tt,
    (
      modular_lawful 5 refl (lit< tt) (lit≤ tt) (0 ∷ 1 ∷ 3 ∷ 2 ∷ 4 ∷ []) refl tt,
      (
        modular_lawful 7 refl (lit< tt) (lit≤ tt) (0 ∷ 1 ∷ 4 ∷ 5 ∷ 2 ∷ 3 ∷ 6 ∷ []) refl tt,
        (
          modular_lawful 11 refl (lit< tt) (lit≤ tt) (0 ∷ 1 ∷ 6 ∷ 4 ∷ 3 ∷ 9 ∷ 2 ∷ 8 ∷ 7 ∷ 5 ∷ 10 ∷ []) refl tt,
          (modular_lawful 13 refl (lit< tt) (lit≤ tt) (0 ∷ 1 ∷ 7 ∷ 9 ∷ 10 ∷ 8 ∷ 11 ∷ 2 ∷ 5 ∷ 3 ∷ 4 ∷ 6 ∷ 12 ∷ []) refl tt, tt),
        ),
      ),
    ),
  ),
)

inverses256 : List ℕ
inverses256 = 0 ∷ 1 ∷ 142 ∷ 244 ∷ 71 ∷ 167 ∷ 122 ∷ 186 ∷ 173 ∷ 157 ∷ 221 ∷ 152 ∷ 61 ∷ 170 ∷ 93 ∷ 150 ∷ 216 ∷ 114 ∷ 192 ∷ 88 ∷ 224 ∷ 62 ∷ 76 ∷ 102 ∷ 144 ∷ 222 ∷ 85 ∷ 128 ∷ 160 ∷ 131 ∷ 75 ∷ 42 ∷ 108 ∷ 237 ∷ 57 ∷ 81 ∷ 96 ∷ 86 ∷ 44 ∷ 138 ∷ 112 ∷ 208 ∷ 31 ∷ 74 ∷ 38 ∷ 139 ∷ 51 ∷ 110 ∷ 72 ∷ 137 ∷ 111 ∷ 46 ∷ 164 ∷ 195 ∷ 64 ∷ 94 ∷ 80 ∷ 34 ∷ 207 ∷ 169 ∷ 171 ∷ 12 ∷ 21 ∷ 225 ∷ 54 ∷ 95 ∷ 248 ∷ 213 ∷ 146 ∷ 78 ∷ 166 ∷ 4 ∷ 48 ∷ 136 ∷ 43 ∷ 30 ∷ 22 ∷ 103 ∷ 69 ∷ 147 ∷ 56 ∷ 35 ∷ 104 ∷ 140 ∷ 129 ∷ 26 ∷ 37 ∷ 97 ∷ 19 ∷ 193 ∷ 203 ∷ 99 ∷ 151 ∷ 14 ∷ 55 ∷ 65 ∷ 36 ∷ 87 ∷ 202 ∷ 91 ∷ 185 ∷ 196 ∷ 23 ∷ 77 ∷ 82 ∷ 141 ∷ 239 ∷ 179 ∷ 32 ∷ 236 ∷ 47 ∷ 50 ∷ 40 ∷ 209 ∷ 17 ∷ 217 ∷ 233 ∷ 251 ∷ 218 ∷ 121 ∷ 219 ∷ 119 ∷ 6 ∷ 187 ∷ 132 ∷ 205 ∷ 254 ∷ 252 ∷ 27 ∷ 84 ∷ 161 ∷ 29 ∷ 124 ∷ 204 ∷ 228 ∷ 176 ∷ 73 ∷ 49 ∷ 39 ∷ 45 ∷ 83 ∷ 105 ∷ 2 ∷ 245 ∷ 24 ∷ 223 ∷ 68 ∷ 79 ∷ 155 ∷ 188 ∷ 15 ∷ 92 ∷ 11 ∷ 220 ∷ 189 ∷ 148 ∷ 172 ∷ 9 ∷ 199 ∷ 162 ∷ 28 ∷ 130 ∷ 159 ∷ 198 ∷ 52 ∷ 194 ∷ 70 ∷ 5 ∷ 206 ∷ 59 ∷ 13 ∷ 60 ∷ 156 ∷ 8 ∷ 190 ∷ 183 ∷ 135 ∷ 229 ∷ 238 ∷ 107 ∷ 235 ∷ 242 ∷ 191 ∷ 175 ∷ 197 ∷ 100 ∷ 7 ∷ 123 ∷ 149 ∷ 154 ∷ 174 ∷ 182 ∷ 18 ∷ 89 ∷ 165 ∷ 53 ∷ 101 ∷ 184 ∷ 163 ∷ 158 ∷ 210 ∷ 247 ∷ 98 ∷ 90 ∷ 133 ∷ 125 ∷ 168 ∷ 58 ∷ 41 ∷ 113 ∷ 200 ∷ 246 ∷ 249 ∷ 67 ∷ 215 ∷ 214 ∷ 16 ∷ 115 ∷ 118 ∷ 120 ∷ 153 ∷ 10 ∷ 25 ∷ 145 ∷ 20 ∷ 63 ∷ 230 ∷ 240 ∷ 134 ∷ 177 ∷ 226 ∷ 241 ∷ 250 ∷ 116 ∷ 243 ∷ 180 ∷ 109 ∷ 33 ∷ 178 ∷ 106 ∷ 227 ∷ 231 ∷ 181 ∷ 234 ∷ 3 ∷ 143 ∷ 211 ∷ 201 ∷ 66 ∷ 212 ∷ 232 ∷ 117 ∷ 127 ∷ 255 ∷ 126 ∷ 253 ∷ []

pub binary_field_lawful : (q : ℕ) → T (among q binary_orders) → Lawful q
unfolding defined_prod degree modulus remainder poly_product bit scaled inverses256
binary_field_lawful = each_at Lawful binary_orders (
  binary_lawful 2 3 (lit< tt) (lit< tt) refl refl refl (lit≤ tt) (0 ∷ 1 ∷ 3 ∷ 2 ∷ []) refl tt,
  (
    binary_lawful 3 3 (lit< tt) (lit< tt) refl refl refl (lit≤ tt) (0 ∷ 1 ∷ 5 ∷ 6 ∷ 7 ∷ 2 ∷ 3 ∷ 4 ∷ []) refl tt,
    (
      binary_lawful 4 3 (lit< tt) (lit< tt) refl refl refl (lit≤ tt) (0 ∷ 1 ∷ 9 ∷ 14 ∷ 13 ∷ 11 ∷ 7 ∷ 6 ∷ 15 ∷ 2 ∷ 12 ∷ 5 ∷ 10 ∷ 4 ∷ 3 ∷ 8 ∷ []) refl tt,
      (binary_lawful 8 29 (lit< tt) (lit< tt) refl refl refl (lit≤ tt) inverses256 refl tt, tt),
    ),
  ),
)

pub lawful : DefinedFieldsAreLawful
lawful q t = elim (or_cases (among q prime_orders) (among q binary_orders) (is_true (listed q) t)) [
  | inl s ↦ prime_lawful q (subst T (sym s) tt)
  | inr s ↦ binary_field_lawful q (subst T (sym s) tt)
]
