use Rattle.std.proofs.Common.{◌≡◌, ◌≤◌, length, sym, refl, ap, arith}
use Rattle.component.specs.Calls.{how_decoded}
use Rattle.component.specs.Decoding.{kept_or}
use Rattle.reed_solomon.specs.Meaning.{inside, full, codes, settled_none, settled_done, settled_not}
use Rattle.reed_solomon.specs.Words.{at}
use Rattle.reed_solomon.proofs.Correcting.{corrected_word}
use Rattle.reed_solomon.proofs.ReedSolomonComponentCode.settle.Goals as goal

pub returns-then-not-fits : goal.returns-then-not-fits
returns-then-not-fits g c =
    let s = c.args.self.now in
    let w = c.args.word.now in
    let p = settled_none (g.F.Field.model s.field) (g.met.F.Field.lawful s.field) s.size s.checks w c.requires (sym c.if-not-fits.ensures) in
    record { answer = sym (ap how_decoded p); after = sym (ap (kept_or w) p) }

pub errors_in-requires : goal.errors_in-requires
errors_in-requires g c =
    let s = c.args.self.now in
    let w = c.args.word.now in
    let φ = g.F.Field.model s.field in
    let laws = g.met.F.Field.lawful s.field in
    let fit = sym c.if-not-fits.ensures in
    let m = inside φ laws s.size s.checks w c.requires fit in
    let long : length c.args.word.now ≡ c.args.self.now.size = full φ laws s.size s.checks w c.requires fit in
    let held : c.args.self.now.size ≤ (g.F.Field.model c.args.self.now.field).order = m.held in
    record { some = m.some; few = m.few; seats = omega arith; codes = codes φ laws s.size s.checks w c.requires fit }

pub returns-in-Some : goal.returns-in-Some
returns-in-Some g c =
    let s = c.args.self.now in
    let w = c.args.word.now in
    let φ = g.F.Field.model s.field in
    let p = settled_done φ (g.met.F.Field.lawful s.field) s.size s.checks w c.requires (sym c.if-not-fits.ensures) c.correct.new.word c.correct.auto.word
    (corrected_word φ (length w) s.checks (at w) c.in-Some.errors.items c.deref.result.now c.in-Some.ensures.found c.deref.ensures.0 (at c.correct.new.word) c.correct.ensures) in
    record { answer = sym (ap how_decoded p); after = sym (ap (kept_or w) p) }

pub returns-in-None : goal.returns-in-None
returns-in-None g c =
    let s = c.args.self.now in
    let w = c.args.word.now in
    let p = settled_not (g.F.Field.model s.field) (g.met.F.Field.lawful s.field) s.size s.checks w c.requires (sym c.if-not-fits.ensures) w (c.in-None.ensures.none refl) in
    record { answer = sym (ap how_decoded p); after = sym (ap (kept_or w) p) }
