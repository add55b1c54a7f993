-- A run on a word with few heavy lines.
use Rattle.std.proofs.Common.{◌≡◌, ℕ, zero, suc, ◌+◌, ◌<◌, ◌≤◌, Bool, true, false, eqb, leb, ◌≢◌, List, length, Some, None, Option, sym, refl, ap, ◌∙◌, subst, arith}
use native.Mathlib.Decide.{dec_le}
use Rattle.std.proofs.lemmas.Bool.{eqb-true, lt-leb, ne_eqb}
use Rattle.refusal.specs.declared.Vertex.{Vertex}
use Rattle.refusal.specs.declared.Verdict.TheVariants.{Clean}
use Rattle.graph_code.specs.Model.{GraphModel, GraphLaws, symbols}
use Rattle.graph_code.specs.Sides.{side, other}
use Rattle.graph_code.specs.Words.{CodeWord, first_failing}
use Rattle.graph_code.specs.Rounds.{alterations, after_round, turn_after, rounds}
use Rattle.graph_code.proofs.SideLaws.{side_laws, other_other}
use Rattle.graph_code.proofs.Passing.{fails_none}
use Rattle.graph_code.proofs.HalfRounds.{unaltered}
use Rattle.decoder_theory.specs.declared.state.State.{State}
use Rattle.decoder_theory.specs.Machine.{Stepped, start, decided, quiet_after, turned, unless_spent, unless_stuck, unless_clean, unless_over, steps, run}
use Rattle.decoder_theory.specs.Bounds.{beyond, heavy_lines, BothShrink}
use Rattle.decoder_theory.specs.Correction.{Corrected, Corrects}
use Rattle.decoder_theory.proofs.Stepping.{stays, Turned, turned_is}
use Rattle.decoder_theory.proofs.Faults.{none_beyond}
use Rattle.decoder_theory.proofs.Nearing.{length_rounds, rounds_left, passing_right, quiet_right, falling}

module _ (k : GraphModel) (laws : GraphLaws k) (b budget : ℕ) (both : BothShrink k b) (c : List ℕ) (code : CodeWord k c)
    (w : List ℕ) (size : length w ≡ symbols k) (few : heavy_lines k c w ≤ b) (room : b + 1 ≤ budget) where
  -- the state after i half rounds with no verdict
  record At (i : ℕ) (d : State) : Type 0 where
    turn : d.turn ≡ turn_after i
    made : d.made ≡ i
    open_yet : d.verdict ≡ None
    calm : 1 ≤ d.quiet → after_round k (other (turn_after i)) (rounds k i w) ≡ rounds k i w
    calmer : 2 ≤ d.quiet → after_round k (turn_after i) (rounds k i w) ≡ rounds k i w

  -- the end of the run, seen after i half rounds
  record Ended (i : ℕ) (y : State × List ℕ) : Type 0 where
    clean : y.0.verdict ≡ Some Clean
    word : y.1 ≡ c
    by_rounds : rounds k y.0.made w ≡ c
    made_few : y.0.made ≤ heavy_lines k c w + 1
    before : (j : ℕ) → i ≤ j → j < y.0.made → rounds k j w ≢ c

  -- the end at a word that no vertex fails
  ends_clean : (n i : ℕ) (d : State) → At i d → i ≤ heavy_lines k c w + 1 → first_failing k (rounds k i w) ≡ None → Ended i (steps k budget (suc n) d (rounds k i w))
  ends_clean n i d a l h =
      rw whole (record {
        clean = refl;
        word = same;
        by_rounds = rw a.made same;
        made_few = omega (arith, a.made);
        before = λ j p q. absurd (omega (arith, a.made));
      })
    where
      x : List ℕ
      x = rounds k i w

      whole : steps k budget (suc n) d x ≡ (decided d Clean, x)
      whole =
          ap (λ (y : Stepped). steps k budget n y.state y.word) (ap (unless_over k budget d x) a.open_yet ∙ ap (unless_clean k budget d x) h)
          ∙ stays k budget n (decided d Clean) x Clean refl

      same : x ≡ c
      same = passing_right k laws b both c code w size few i h

  -- a half round leads on
  goes_on : (i : ℕ) (d d' : State) → At i d → Turned k d (rounds k i w) d.turn d' → At (suc i) d'
  goes_on i d d' a t =
      record {
        turn = t.turn ∙ ap other a.turn;
        made = t.made ∙ omega (arith, a.made);
        open_yet = t.verdict;
        calm = λ h. rw (other_other (turn_after i)) (ap (after_round k (turn_after i)) (same h));
        calmer = λ h. subst (λ y. after_round k (other (turn_after i)) y ≡ y) (sym (same (omega arith))) (a.calm (louder h));
      }
    where
      x : List ℕ
      x = rounds k i w

      silent : Bool
      silent = eqb (alterations (side k d.turn) x) 0

      -- a quiet half round altered nothing
      quiet_same : (q : Bool) → eqb (alterations (side k d.turn) x) 0 ≡ q → 1 ≤ quiet_after d.quiet q → rounds k (suc i) w ≡ x
      quiet_same true e h =
          ap (λ s. after_round k s x) (sym a.turn)
          ∙ unaltered (side k d.turn) (symbols k) (side_laws k laws d.turn) x (length_rounds k laws b both c code w size few i) (eqb-true (alterations (side k d.turn) x) 0 e)
      quiet_same false e h = absurd (omega arith)

      quiet_more : (q : Bool) → 2 ≤ quiet_after d.quiet q → 1 ≤ d.quiet
      quiet_more true h = omega arith
      quiet_more false h = absurd (omega arith)

      same : 1 ≤ d'.quiet → rounds k (suc i) w ≡ x
      same h = quiet_same silent refl (rw t.quiet at h)

      louder : 2 ≤ d'.quiet → 1 ≤ d.quiet
      louder h = quiet_more silent (rw t.quiet at h)

  -- a word that fails at a vertex is not the word of the code
  failing : (i : ℕ) (v : Vertex) → first_failing k (rounds k i w) ≡ Some v → rounds k i w ≢ c
  failing i v h e =
      let p = fails_none k c code.passes in
      let q : first_failing k c ≡ Some v = rw e at h in
      let z : ◌≡◌ {A = ℕ} 0 1 = cc in
      omega arith

  -- neither stuck nor spent at a wrong word: one more half round
  moves : (n i : ℕ) (d : State) (v : Vertex) → At i d → first_failing k (rounds k i w) ≡ Some v
      → steps k budget (suc n) d (rounds k i w) ≡ steps k budget n (turned k d (rounds k i w) d.turn) (rounds k (suc i) w)
  moves n i d v a h =
      ap (λ (y : Stepped). steps k budget n y.state y.word)
      (ap (unless_over k budget d x) a.open_yet ∙ ap (unless_clean k budget d x) h ∙ ap (unless_stuck k budget d x v) loud ∙ ap (unless_spent k d x v) unspent)
      ∙ ap (λ s. steps k budget n (turned k d x d.turn) (after_round k s x)) a.turn
    where
      x : List ℕ
      x = rounds k i w

      wrong_yet : x ≢ c
      wrong_yet = failing i v h

      loud : leb 2 d.quiet ≡ false
      loud = lt-leb 2 d.quiet (elim (dec_le 2 d.quiet) [
        | yes q ↦ absurd (wrong_yet (quiet_right k laws b both c code w size few i (a.calm (omega arith)) (a.calmer q)))
        | no q ↦ omega arith
      ])

      unspent : eqb d.made budget ≡ false
      unspent = ne_eqb d.made budget (λ e. let f = rounds_left k laws b both c code w size few i wrong_yet in omega (arith, a.made))

  goes : (n i : ℕ) (d : State) → At i d → i ≤ heavy_lines k c w + 1 → heavy_lines k c w + 2 ≤ i + n → Ended i (steps k budget n d (rounds k i w))
  goes zero i d a l m = absurd (omega arith)
  goes (suc n) i d a l m = either (first_failing k (rounds k i w)) refl (λ v h.
      let x = rounds k i w in
      let f = rounds_left k laws b both c code w size few i (failing i v h) in
      goes n (suc i) (turned k d x d.turn) (goes_on i d (turned k d x d.turn) a (turned_is k d x d.turn)) (omega arith) (omega arith))
    where
      either : (o : Option Vertex) → first_failing k (rounds k i w) ≡ o
          → ((v : Vertex) → first_failing k (rounds k i w) ≡ Some v → Ended (suc i) (steps k budget n (turned k d (rounds k i w) d.turn) (rounds k (suc i) w)))
          → Ended i (steps k budget (suc n) d (rounds k i w))
      either None h r = ends_clean n i d a l h
      either (Some v) h r =
          let e = r v h in
          rw (moves n i d v a h) (record {
            clean = e.clean;
            word = e.word;
            by_rounds = e.by_rounds;
            made_few = e.made_few;
            before = λ j p q. elim (dec_le (suc i) j) [
              | yes z ↦ e.before j z q
              | no z ↦ let y : j ≡ i = omega arith in rw y (failing i v h)
            ];
          })

  started : At 0 start
  started = record { turn = refl; made = refl; open_yet = refl; calm = λ h. absurd (omega arith); calmer = λ h. absurd (omega arith) }

  corrected : Corrected k budget c w
  unfolding run
  corrected =
      let e = goes (suc budget) 0 start started (omega arith) (omega arith) in
      let n = (run k budget w).0.made in
      record {
        clean = e.clean;
        word = e.word;
        by_rounds = e.by_rounds;
        descent = record {
          few = e.made_few;
          falls = λ i p q. falling k laws b both c code w size few i p (e.before i (omega arith) q);
          none_left = λ p. ap (beyond (side k (other (turn_after n))) 0 c) e.by_rounds ∙ none_beyond (side k (other (turn_after n))) 0 c;
        };
      }

pub corrects : Corrects
corrects k laws b budget both c w code size few room = corrected k laws b budget both c code w size few room
