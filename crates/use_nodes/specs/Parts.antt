-- What expressions are made of, and what a storage of them reads.
use Rattle.std.specs.Prelude.{ℕ, Option, Some, None, option_and_then}
use Rattle.std.specs.Option.{option_map}
use Rattle.ra_ap_intern.specs.Handle.{ref_name}
use Rattle.ra_ap_intern.specs.Name.{Name}
use Rattle.ra_ap_intern.specs.State.{State, reads}
use Rattle.ra_ap_intern.specs.declared.kind.Values.{Values}
use Rattle.ra_ap_intern.specs.declared.storage.Ref.{Ref}
use Rattle.use_nodes.specs.declared.Expr.{Expr, out-Expr}
use Rattle.use_nodes.specs.declared.Expr.TheOpen.{Expr-F}

-- a number, or the names of what is added
pub data Parts : Type 0 where
  number : ℕ → Parts
  sum : Name → Name → Parts

abbrev pub open_parts : Expr-F Expr → Parts
open_parts (Expr-F.Number value) = number value
open_parts (Expr-F.Add left right) = sum (ref_name left) (ref_name right)

abbrev pub parts_in : Expr → Parts
parts_in e = open_parts (out-Expr e)

-- what the expression of a name is made of
abbrev pub parts_at : State Expr → Name → Option Parts
parts_at s name = option_map parts_in (reads s name)

-- what a sum adds
abbrev pub open_summands : Expr-F Expr → Option (Ref (Values Expr) × Ref (Values Expr))
open_summands (Expr-F.Number value) = None
open_summands (Expr-F.Add left right) = Some (left, right)

abbrev pub summands : Option Expr → Option (Ref (Values Expr) × Ref (Values Expr))
summands = option_and_then (λ e. open_summands (out-Expr e))
