-- The plane fills the 16 bytes.
use mathlib.Core.Path.{sym, ◌∙◌}
use Rattle.xoodoo.specs.Xoodoo.{plane_bytes}
use Rattle.xoodoo.proofs.Bytes.{plane-size}
use Rattle.xoodoo.proofs.BlockBytes.{sets-all}
use Rattle.xoodyak.proofs.words.PlaneLent.put.Goals as goal

pub returns : goal.returns
returns c = let a = c.args in c.put16.ensures ∙ sets-all (plane_bytes a.self) a.b.now (plane-size a.self ∙ sym c.requires)
