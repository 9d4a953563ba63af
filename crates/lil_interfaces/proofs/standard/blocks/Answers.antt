use Rattle.std.proofs.Common.{◌++◌, ◌∷◌, [], ap, ◌∙◌}
use Rattle.lil_interfaces.specs.Standard.{puts, standard_types, standard_constants, standard_functions, standard_procedures}
use Rattle.lil_interfaces.proofs.Blocks.{all_put}
use Rattle.lil_interfaces.proofs.standard.blocks.Goals as goal

pub returns : goal.returns
returns c =
    let begun = c.in_ok-begin.ensures.more ∙ ap (λ b. b ++ [] ∷ []) c.new-blocks.ensures in
    let types = c.in_ok-standard_types.ensures ∙ ap (λ b. puts b standard_types) begun in
    let constants = c.in_ok-standard_constants.ensures ∙ ap (λ b. puts b standard_constants) types in
    let functions = c.in_ok-standard_functions.ensures ∙ ap (λ b. puts b standard_functions) constants in
    let procedures = c.in_ok-standard_procedures.ensures ∙ ap (λ b. puts b standard_procedures) functions in
    c.in_ok-begin-2.ensures.more ∙ ap (λ b. b ++ [] ∷ []) (procedures ∙ all_put)
