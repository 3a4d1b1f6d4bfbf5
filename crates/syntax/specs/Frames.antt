-- Frames, and the forms that they stand for.
use Rattle.std.specs.Prelude.{◌≡◌, Bool, true, false, List, [], ◌∷◌, ◌++◌, Option, length}
use Rattle.std.specs.Option.{option_map}
use Rattle.intern_terms.specs.declared.handle.TermRef.{TermRef}
use Rattle.ra_ap_intern.specs.Symbols.{symbol_ref_name}
use Rattle.syntax.specs.Machine.{Shape, group, called, sides, choice, binding, definition, yields}
use Rattle.syntax.specs.declared.machine.Form.{Form}
use Rattle.syntax.specs.declared.machine.Form.TheVariants as form
use Rattle.syntax.specs.declared.machine.Frame.{Frame}
use Rattle.syntax.specs.declared.token.Operator.{Operator}

abbrev pub shape_of : Form → Shape
shape_of form.Group = group
shape_of (form.Call name) = called (symbol_ref_name name)
shape_of (form.Infix operator) = sides operator
shape_of form.Choice = choice
shape_of form.Binding = binding
shape_of form.Definition = definition

abbrev pub opened_by : Option Form → Option Shape
opened_by = option_map shape_of

-- with a frame of this form behind the others, of which these parts were read
abbrev pub Opened : List Frame → List Frame → Form → List TermRef → Type 0
Opened old new form parts = (f : Frame) × (new ≡ old ++ f ∷ []) × (f.form ≡ form)
    × (f.parts.items ≡ parts)

-- the last frame, if there is one, goes on
abbrev pub NoneYields : List Frame → Option Operator → Type 0
NoneYields frames next = (fs : List Frame) (f : Frame) → frames ≡ fs ++ f ∷ []
    → yields (shape_of f.form) (length f.parts.items) next ≡ false

-- whether there is no frame
abbrev pub no_frame : List Frame → Bool
no_frame [] = true
no_frame (f ∷ fs) = false
