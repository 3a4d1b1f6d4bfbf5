use Rattle.std.proofs.Common.{List, subst, ◌++◌, ◌∷◌, []}
use Rattle.std.specs.Prelude.{OnOk}
use Rattle.intern_terms.specs.declared.handle.TermRef.{TermRef}
use Rattle.syntax.specs.Frames.{Opened}
use Rattle.syntax.specs.declared.machine.Form.TheVariants as form
use Rattle.syntax.proofs.machine.Machine.open_infix.Goals as goal

pub returns-clause-frames : goal.returns-clause-frames
returns-clause-frames c =
    let P : List TermRef → Type 0 = λ parts. OnOk c.push_part.result
    (Opened c.args.self.now.frames.items c.push_part.new.self.frames.items
    (form.Infix c.args.operator) (parts ++ c.args.left ∷ [])) in
    subst P c.new.ensures.items c.push_part.ensures.frames
