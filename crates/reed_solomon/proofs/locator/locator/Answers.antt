use Rattle.std.proofs.Common.{◌≡◌, ℕ, ◌∙◌, ◌+◌, ◌-◌, ◌<◌, ◌≤◌, ◌++◌, ◌∷◌, [], inl, inr, length, get_or, take, drop, sym, ap, subst, arith, length-append, length-drop}
use Rattle.std.specs.Slice.Iter.{windows_rest, windows_size}
use Rattle.std.proofs.lemmas.Bool.{cases_lt}
use Rattle.std.proofs.lemmas.List.{get_or-take, get_or-drop, drop-drop}
use Rattle.reed_solomon_theory.specs.Decode.{Locator}
use Rattle.reed_solomon_theory.specs.Elimination.{Basis}
use Rattle.reed_solomon.specs.Words.{at}
use Rattle.reed_solomon.proofs.Steps.{start_j, end_j}
use Rattle.reed_solomon.proofs.locator.locator.Goals as goal

-- the windows do not end before t of them
ended : (n j t left size : ℕ) → n + j ≡ t → t ≤ 4 → size ≡ 5 → left ≡ 8 - j → (0 < n → left < size) → t ≤ j
ended n j t left size e few five long none = elim (cases_lt 0 n) [
  | inl h ↦ absurd (short h (none h))
  | inr h ↦ omega arith
]
  where
    short : 0 < n → left < size → ⊥
    short h l = omega arith

pub loop-five-init : goal.loop-five-init
loop-five-init g c =
    let rows = c.truncate.new.self.items in
    let start = start_j (g.F.Field.model c.args.field.now) (g.met.F.Field.lawful c.args.field.now) (at c.args.sums.now) c.args.t rows (omega arith)
    (c.truncate.ensures.items ∙ ap (take (c.args.t + 1)) c.from-rows.ensures.0) in
    let same = c.into_iter-five-iterator.ensures.into_iter_gives in
    let source = ap (λ i. i.iter.parts) same ∙ ap (λ i. i.parts) c.take-five-items.ensures.source in
    let count : c.into_iter-five-iterator.result.n ≡ c.args.t = ap (λ i. i.n) same ∙ c.take-five-items.ensures.count in (
      start,
      omega (arith, ap length c.from-rows.ensures.0),
      ap windows_rest source ∙ c.array_windows.ensures.rest,
      ap windows_size source ∙ c.array_windows.ensures.size,
      omega arith,
    )

pub loop-five-preserved : goal.loop-five-preserved
loop-five-preserved g c =
    let φ = g.F.Field.model c.args.field.now in
    let s = c.args.sums.now in
    let j = length c.loop-five.yielded in
    let rows = c.step.new.rows.items in
    let inv = c.loop-five.invariant in
    let steps = c.in-Some.ensures.steps in
    let next : length (c.loop-five.yielded ++ c.in-Some.five ∷ []) ≡ length c.loop-five.yielded + 1 = length-append c.loop-five.yielded (c.in-Some.five ∷ []) in
    let five : c.in-Some.five.now ≡ take 5 (drop j s) = steps.0.1.1 ∙ ap (λ n. take n (windows_rest c.loop-five.five-iterator.iter.parts)) inv.3 ∙ ap (take 5) inv.2 in
    let enough : c.args.t + 1 ≤ length c.loop-five.yielded + length c.loop-five.rows.items = inv.1 in
    let more = c.step.ensures.enough in
    let count : c.loop-five.five-iterator.n + length c.loop-five.yielded ≡ c.args.t = inv.4 in
    let less : c.next.new.self.n + 1 ≡ c.loop-five.five-iterator.n = steps.1 in (
      subst (λ i. Basis φ (at s) 5 (c.args.t + 1) i (length rows) (λ k. get_or rows k [])) (sym next)
          (c.step.ensures.after (at s) (c.args.t + 1) j (λ k h. sym (ap (λ xs. get_or xs k 0) five ∙ get_or-take 5 (drop j s) k 0 h ∙ get_or-drop j s k 0)) inv.0),
      omega arith,
      steps.0.1.2 ∙ ap (drop 1) inv.2 ∙ drop-drop 1 j s ∙ ap (λ n. drop n s) (sym next),
      steps.0.0 ∙ inv.3,
      omega arith,
    )

pub returns : goal.returns
returns g c =
    let φ = g.F.Field.model c.args.field.now in
    let s = at c.args.sums.now in
    let rows = c.loop-five.rows.items in
    let inv = c.loop-five.invariant in
    let count : c.loop-five.five-iterator.n + length c.loop-five.yielded ≡ c.args.t = inv.4 in
    let few : c.args.t ≤ 4 = c.requires in
    let eight : length c.args.sums.now ≡ 8 = c.told-sums in
    let size : windows_size c.loop-five.five-iterator.iter.parts ≡ 5 = inv.3 in
    let none : 0 < c.loop-five.five-iterator.n → length (windows_rest c.loop-five.five-iterator.iter.parts) < windows_size c.loop-five.five-iterator.iter.parts
    = λ h. (c.in-None.ensures.steps h).1.0 in
    let long : length (windows_rest c.loop-five.five-iterator.iter.parts) ≡ 8 - length c.loop-five.yielded
    = ap length inv.2 ∙ length-drop (length c.loop-five.yielded) c.args.sums.now ∙ ap (λ n. n - length c.loop-five.yielded) eight in
    let all = ended c.loop-five.five-iterator.n (length c.loop-five.yielded) c.args.t (length (windows_rest c.loop-five.five-iterator.iter.parts)) (windows_size c.loop-five.five-iterator.iter.parts) inv.4 few size long none in
    subst (λ xs. Locator φ c.args.t s (get_or xs 0 [])) (sym c.deref.ensures.0)
    (end_j φ (g.met.F.Field.lawful c.args.field.now) s c.args.t (length c.loop-five.yielded) (length rows) (λ l. get_or rows l []) inv.0 all (omega arith) inv.1)
