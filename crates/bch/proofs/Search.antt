-- A search by `find_map` over the numbers below n.
use Rattle.std.proofs.Common.{◌≡◌, ℕ, ◌<◌, Some, None, Option, IfNone, IfSome, MatchOption, IsTrue, option_map, ap, ◌∙◌, subst, arith}
use Rattle.std.proofs.iter.Yields.{nat_range_steps}
use Rattle.std.proofs.iter.runs.Sources.{range_runs}
use Rattle.std.specs.Iterator.Runs.{Run, SomeRun, AllItemsGive, CallKeepsClosure}
use denote.Param.Members.{Mut, Called}

module _ {F B : Type 0} {g : Mut F (ℕ × Unit {0}) (Option B)} (n : ℕ) (f : F) (No : ℕ → Type 0)
    (keeps : CallKeepsClosure g f) (no : (x : ℕ) → Called g f (x, tt) None f → No x) where
  -- where it answers none, so did the closure at each of them
  pub none_below : (r : Option B) (Found : Run nat_range_steps → B → Type 0)
      → SomeRun nat_range_steps (record { start = 0; end = n }) (λ p. MatchOption r (IsTrue p.whole × AllItemsGive p g f None) (Found p))
      → IfNone r ((k : ℕ) → k < n → No k)
  none_below (Some y) Found h = tt
  none_below None Found h = λ k l.
      let p = h.0 in
      let counts = range_runs p p.seen in
      let low = ap (λ s. s.start) h.1 in
      let high = ap (λ s. s.end) h.1 in
      at (p.at k) k (counts.3 k (omega (arith, counts.1 h.2.0, low, high)) ∙ ap Some (omega (arith, low))) (h.2.1 keeps k)
    where
      at : (o : Option ℕ) (k : ℕ) → option_map (λ y. y) o ≡ Some k → IfSome o (λ x. Called g f (x, tt) None f) → No k
      at None k e c = grind arith
      at (Some x) k e c = let m : x ≡ k = cc in subst No m (no x c)
