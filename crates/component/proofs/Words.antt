-- Words that the checks let pass.
use Rattle.std.proofs.Common.{◌≡◌, ℕ, ◌<◌, Bool, true, false, eqb, leb, ltb, List, length, get_or, Some, None, Ok, Err, Option, Result, refl, ap, subst, arith}
use Rattle.std.proofs.lemmas.Bool.{and_from, eq-eqb, eqb-true, leb-false, le-ltb, lt-leb, lt-ltb}
use Rattle.std.proofs.lemmas.List.Sums.{fails_before_first, position_or_len_is}
use Rattle.std.specs.Result.{result_and}
use Rattle.refusal.specs.declared.Refusal.{Refusal}
use Rattle.refusal.specs.declared.Refusal.TheVariants.{BufferLength}
use Rattle.ranges.specs.Ranges.{every}
use Rattle.ranges.proofs.Tests.{every_from}
use Rattle.component.specs.Model.{CodeModel, over_field}
use Rattle.component.specs.Checks.{unless, first_no_code, no_stranger, word_standing, standing, admitted}

pub unless_true : (b : Bool) (r : Refusal) → unless b r ≡ Ok tt → b ≡ true
unless_true true r h = refl
unless_true false r h = grind arith

pub both_pass : {X : Type 0} (a : Result (Unit {0}) Refusal) (b : Result X Refusal) (x : X) → result_and a b ≡ Ok x → (a ≡ Ok tt) × (b ≡ Ok x)
both_pass (Ok u) b x h = (refl, h)
both_pass (Err r) b x h = grind arith

pub stranger_none : (o : Option ℕ) → no_stranger o ≡ Ok tt → o ≡ None
stranger_none None h = refl
stranger_none (Some place) h = grind arith

-- where no place holds what is no code, each symbol is a code, and the other way round
none_codes : (q : ℕ) (xs : List ℕ) → no_stranger (first_no_code q xs) ≡ Ok tt → (i : ℕ) → i < length xs → get_or xs i 0 < q
none_codes q xs h i l = grind (arith, fails_before_first (leb q) xs i 0, leb-false q (get_or xs i 0))

codes_none : (q : ℕ) (xs : List ℕ) → ((i : ℕ) → i < length xs → get_or xs i 0 < q) → first_no_code q xs ≡ None
codes_none q xs h =
    let n = length xs in
    let e = position_or_len_is (leb q) xs n 0 (omega arith) (λ k l. lt-leb q (get_or xs k 0) (h k l)) (λ l. absurd (omega arith)) in
    rw (e, le-ltb n n (omega arith)) refl

-- a word passes the checks exactly where it has the length and holds codes alone
pub word_stands : (q n : ℕ) (xs : List ℕ) → word_standing q n xs ≡ Ok tt → (length xs ≡ n) × ((i : ℕ) → i < n → get_or xs i 0 < q)
unfolding word_standing
word_stands q n xs h =
    let p = both_pass (unless (eqb (length xs) n) BufferLength) (no_stranger (first_no_code q xs)) tt h in
    let size = eqb-true (length xs) n (unless_true (eqb (length xs) n) BufferLength p.0) in
    (size, λ i l. none_codes q xs p.1 i (omega arith))

pub stands_from : (q n : ℕ) (xs : List ℕ) → length xs ≡ n → ((i : ℕ) → i < n → get_or xs i 0 < q) → word_standing q n xs ≡ Ok tt
unfolding word_standing
stands_from q n xs size codes = rw (eq-eqb (length xs) n size, codes_none q xs (λ i l. codes i (omega arith))) refl

-- a word of the right length in which no place holds what is no code is a word over the field
pub all_codes : (c : CodeModel) (q : ℕ) (xs : List ℕ) → q ≡ c.field.order → length xs ≡ c.size → first_no_code q xs ≡ None → over_field c xs ≡ true
all_codes c q xs e l h =
    and_from (eqb (length xs) c.size) (every c.size (λ i. ltb (get_or xs i 0) c.field.order)) (eq-eqb (length xs) c.size l)
    (every_from c.size (λ i. ltb (get_or xs i 0) c.field.order) (λ i k.
    lt-ltb (get_or xs i 0) c.field.order (subst (λ n. get_or xs i 0 < n) e (none_codes q xs (ap no_stranger h) i (omega arith)))))

-- a word that a call of decoding admits is a word over the field
pub over_from : (c : CodeModel) (xs : List ℕ) → admitted c xs ≡ Ok tt → over_field c xs ≡ true
over_from c xs h =
    let q = c.field.order in
    let w = word_stands q c.size xs (both_pass (standing c) (word_standing q c.size xs) tt h).1 in
    all_codes c q xs refl w.0 (codes_none q xs (λ i l. w.1 i (omega arith)))
