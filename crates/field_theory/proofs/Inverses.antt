-- Inverses: a list of them, tested at each entry, and the one that the definition finds.
use Rattle.std.proofs.Common.{◌≡◌, ℕ, zero, suc, ◌<◌, ◌≤◌, Bool, true, T, eqb, ◌≢◌, List, length, get_or, sym, refl, ap, ◌∙◌, subst, arith, eqb→eq}
use mathlib.Core.Path.{fun_ext}
use Rattle.std.proofs.lemmas.Bool.{eq-eqb, eqb-true, both_ways, cond_both}
use Rattle.field.specs.Model.{as_code}
use Rattle.field.specs.Defined.{solution, defined_prod, defined_inv}
use Rattle.field.proofs.Codes.{code_lt}
use Rattle.field_theory.proofs.Scan.{every, at}

solution_le : (n : ℕ) (test : ℕ → Bool) → solution n test ≤ n
unfolding solution
solution_le zero test = omega arith
solution_le (suc n) test = cond_both (test n) n (solution n test) (λ x. x ≤ suc n) (λ _. omega arith) (λ _. omega (arith, solution_le n test))

pub solution_lt : (n : ℕ) (test : ℕ → Bool) → 0 < n → solution n test < n
unfolding solution
solution_lt zero test h = h
solution_lt (suc n) test h = cond_both (test n) n (solution n test) (λ x. x < suc n) (λ _. omega arith) (λ _. omega (arith, solution_le n test))

-- what is found passes the test, if anything below n does
pub solution_passes : (n : ℕ) (test : ℕ → Bool) (x : ℕ) → x < n → test x ≡ true → test (solution n test) ≡ true
unfolding solution
solution_passes zero test x h e = absurd (omega arith)
solution_passes (suc n) test x h e =
    cond_both (test n) n (solution n test) (λ y. test y ≡ true) (λ t. t)
    (λ t. let d : x ≢ n = λ s. both_ways (test n) t (sym (ap test s) ∙ e) in solution_passes n test x (omega arith) e)

-- 0, or its product with x is 1
abbrev pub undone : ℕ → ℕ → ℕ → Bool
undone q zero x = true
undone q (suc a) x = eqb (defined_prod q (suc a) (as_code q x)) 1

module _ (q : ℕ) (pos : 0 < q) (table : List ℕ) (size : length table ≡ q) (test : T (every (undone q) table)) where
  undone_is : (a x : ℕ) → a ≢ 0 → T (undone q a x) → defined_prod q a (as_code q x) ≡ 1
  undone_is zero x nz t = absurd (nz refl)
  undone_is (suc a) x nz t = eqb→eq (defined_prod q (suc a) (as_code q x)) 1 t

  pub inverse_is : (a : ℕ) → a < q → a ≢ 0 → defined_prod q a (defined_inv q a) ≡ 1
  unfolding defined_inv
  inverse_is a h nz =
      let x = as_code q (get_or table a 0) in
      let e = undone_is a (get_or table a 0) nz (at (undone q) table test a (subst (λ n. a < n) (sym size) h)) in
      eqb-true (defined_prod q a (solution q (λ x. eqb (defined_prod q a x) 1))) 1
      (solution_passes q (λ x. eqb (defined_prod q a x) 1) x (code_lt q (get_or table a 0) pos) (eq-eqb (defined_prod q a x) 1 e))

  pub inverse_lt : (a : ℕ) → defined_inv q a < q
  unfolding defined_inv
  inverse_lt a = solution_lt q (λ x. eqb (defined_prod q a x) 1) pos

pub inverse_reads : (q : ℕ) → ((a x : ℕ) → defined_prod q a x ≡ defined_prod q (as_code q a) x) → (a : ℕ) → defined_inv q a ≡ defined_inv q (as_code q a)
unfolding defined_inv
inverse_reads q reads a = ap (solution q) (fun_ext (λ x. ap (λ y. eqb y 1) (reads a x)))
