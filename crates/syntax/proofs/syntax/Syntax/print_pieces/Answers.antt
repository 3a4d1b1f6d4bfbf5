use Rattle.std.proofs.Common.{◌+◌, ◌∙◌, ◌++◌, ◌∷◌, [], ap, subst, sym}
use Rattle.syntax.specs.Pieces.{Prints}
use Rattle.syntax.proofs.Spelled.{prints_token, prints_tree, prints_long}
use Rattle.syntax.proofs.syntax.Syntax.print_pieces.Goals as goal
use Rattle.syntax.proofs.syntax.Syntax.print_pieces.Goals.{in-Token+in_ok-push-in-Token, in-Tree+in_ok-layout-in-Tree+in_ok-push_all-in-Tree}

pub loop-preserved : goal.loop-preserved
loop-preserved c spelled spell =
    let s = c.args.self.now.terms in
    let all = c.loop.pieces.items in
    let rest = c.pop.new.self.items in
    let so = c.loop.invariant spelled spell in
    elim c.match-piece.branch [
      | in-Token+in_ok-push-in-Token w ↦
          subst (λ v. Prints s (c.loop.counter + 1) v.items c.match-piece.pieces.items spelled)
          (sym w.tokens-is)
          (subst (λ v. Prints s (c.loop.counter + 1) w.push.new.self.items v.items spelled)
          (sym w.pieces-is)
          (prints_token s c.loop.counter c.loop.tokens.items w.push.new.self.items
          w.in-Token.token rest all spelled
          (c.in-Some.ensures.items ∙ ap (λ p. rest ++ p ∷ []) w.in-Token.is)
          w.in_ok-push-in-Token.ensures.items so))
      | in-Tree+in_ok-layout-in-Tree+in_ok-push_all-in-Tree w ↦
          subst (λ v. Prints s (c.loop.counter + 1) v.items c.match-piece.pieces.items spelled)
          (sym w.tokens-is)
          (subst (λ v. Prints s (c.loop.counter + 1) c.loop.tokens.items v.items spelled)
          (sym w.pieces-is)
          (prints_tree s c.loop.counter c.loop.tokens.items w.in-Tree.tree
          w.in_ok-layout-in-Tree.field-0.items rest all w.push_all-in-Tree.new.pieces.items spelled
          (c.in-Some.ensures.items ∙ ap (λ p. rest ++ p ∷ []) w.in-Tree.is)
          w.in_ok-push_all-in-Tree.ensures w.in_ok-layout-in-Tree.ensures so))
    ]

pub returns-clause-long : goal.returns-clause-long
returns-clause-long c spelled so too_long =
    prints_long c.args.self.now.terms c.loop.counter c.args.most c.loop.tokens.items
    c.loop.pieces.items spelled c.loop-test.false (c.loop.invariant spelled so)
