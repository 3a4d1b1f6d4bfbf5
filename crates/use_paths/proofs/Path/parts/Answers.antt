use Rattle.std.proofs.Common.{refl}
use Rattle.use_paths.specs.declared.Path.TheVariants.{outs-Within}
use Rattle.use_paths.proofs.Opened.{is_within}
use Rattle.use_paths.proofs.Path.parts.Goals as goal

pub returns-clause-parent : goal.returns-clause-parent
returns-clause-parent c = let path = is_within c.args.self.now in rw (path.2, outs-Within) refl

pub returns-clause-name : goal.returns-clause-name
returns-clause-name c = let path = is_within c.args.self.now in rw (path.2, outs-Within) refl
