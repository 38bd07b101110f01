use Rattle.std.proofs.Common.{rules, ◌≡◌, ◌+◌, arith}
use Rattle.sqjournal.specs.Header.{HasMagic}
use Rattle.sqjournal.proofs.read.NextStateOfReading.{header_ends, header_goes}
use Rattle.sqjournal.proofs.reading.Reading.after_header.Goals as goal

pub returns-then-not-starts_with-clause-stands : goal.returns-then-not-starts_with-clause-stands
returns-then-not-starts_with-clause-stands c =
    let bad : HasMagic c.args.sector.now 0 → ⊥ = search rules in
    λ b es s is. header_ends b c.args.sector.now c.args.self c.over.result es s is c.requires.next.0 c.requires.next.1 bad c.over.ensures.header c.over.ensures.at c.over.ensures.next

pub returns-clause-stands : goal.returns-clause-stands
returns-clause-stands c =
    let magic : HasMagic c.args.sector.now 0 = search rules in
    let ends : c.args.self.at + c.from.result ≡ c.args.self.at + c.args.self.header.sector = omega (arith, c.from.ensures) in
    λ b es s is. header_goes b c.args.sector.now c.args.self c.goes_on.result es c.word_at-2.result c.word_at.result (c.args.self.at + c.from.result) s is c.requires.next.0 c.requires.next.1 magic
    c.word_at-2.ensures c.word_at.ensures c.goes_on.ensures.header ends c.goes_on.ensures.full c.goes_on.ensures.more
