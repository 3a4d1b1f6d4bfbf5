use Rattle.std.proofs.Common.{◌≡◌, ◌++◌, ◌∷◌, [], FitsSigned, w64, rules}
use Rattle.std.proofs.lemmas.Int.{to_z-of_z}
use Rattle.queries.proofs.Formulas.{run_two}
use Rattle.queries.proofs.formula.step_number.Goals as goal

pub returns-in_ok-left-in-Apply : goal.returns-in_ok-left-in-Apply
returns-in_ok-left-in-Apply c steps =
    let left = c.in_ok-left-in-Apply.left in
    let right = c.in_ok-right-in-Apply.right in
    let left_fits : FitsSigned w64 left = search rules in
    let right_fits : FitsSigned w64 right = search rules in
    let first : c.args.stack.now.items ≡ c.pop-in-Apply.new.self.items ++ right ∷ [] = search rules in
    let second : c.pop-in-Apply.new.self.items ≡ c.pop-in-Apply-2.new.self.items ++ left ∷ [] =
    search rules in
    run_two c.args.values.now steps c.in-Apply.operator c.args.step c.in-Apply.is right _ _ first left _ _ _
    second c.apply.result c.apply.ensures (to_z-of_z w64 left left_fits) (to_z-of_z w64 right right_fits)
