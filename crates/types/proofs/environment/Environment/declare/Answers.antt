use Rattle.std.proofs.Common.{refl}
use Rattle.types.proofs.Environments.{declared_on, others_stay, same_declared}
use Rattle.types.proofs.environment.Environment.declare.Goals as goal

pub returns-clause-declares : goal.returns-clause-declares
returns-clause-declares c =
    declared_on _ c.symbol_references_are_what_they_name.ensures.equal c.args.self.now.declared
    c.insert.new.self c.args.name c.args.handle c.in_ok-insert.ensures.updates.0

pub returns-clause-others : goal.returns-clause-others
returns-clause-others c other t apart =
    same_declared c.args.self.now (record c.args.self.now { declared = c.insert.new.self }) other t refl
    (others_stay c.args.self.now.declared c.insert.new.self c.args.name _ other
    (declared_on _ c.symbol_references_are_what_they_name.ensures.equal c.args.self.now.declared
    c.insert.new.self c.args.name c.args.handle c.in_ok-insert.ensures.updates.0 other) apart)
