-- A component code chosen at run time is lawful.
use Rattle.field.specs.Defined.{defined_field}
use Rattle.component.specs.Model.{CodeLaws}
use Rattle.reed_solomon.specs.Meaning.{lawful as reed_solomon_lawful}
use Rattle.bch.specs.Words.{lawful as bch_lawful}
use Rattle.any_field.specs.Orders.{order_of}
use Rattle.any_field.specs.Lawful.{field_lawful}
use Rattle.any_code.specs.declared.AnyCode.{AnyCode}
use Rattle.any_code.specs.declared.AnyCode.TheVariants.{ReedSolomon, Bch}
use Rattle.any_code.specs.Kinds.{code_of}

pub code_lawful : (c : AnyCode) → CodeLaws (code_of c)
code_lawful (ReedSolomon c) = reed_solomon_lawful (defined_field (order_of c.field)) (field_lawful c.field) c.size c.checks
code_lawful (Bch c) = bch_lawful c.code.size c.code.radius
