use Rattle.std.proofs.Common.{◌≡◌, [], ◌∷◌, ◌++◌, ap, ◌∙◌, List}
use Rattle.lil_interfaces.specs.{declared.surface.Interface.Interface, Interfaces.{terminal, in_out, file_system, storage, program, channels, system}}
use Rattle.lil_interfaces.proofs.resident_modules.push_all.Goals as goal

-- one more behind what stands there
more : {was now there : List Interface} {a b : Interface} → now ≡ was ++ a ∷ [] → was ≡ there → a ≡ b → now ≡ there ++ b ∷ []
more {there = there} {a = a} is before same = is ∙ (ap (λ xs. xs ++ a ∷ []) before ∙ ap (λ x. there ++ x ∷ []) same)

pub returns : goal.returns
returns c =
    more c.in_ok-push-7.ensures.ok
    (more c.in_ok-push-6.ensures.ok
    (more c.in_ok-push-5.ensures.ok
    (more c.in_ok-push-4.ensures.ok
    (more c.in_ok-push-3.ensures.ok
    (more c.in_ok-push-2.ensures.ok
    (more c.in_ok-push.ensures.ok c.requires (c.in_ok-terminal.ensures ∙ ap terminal c.in_ok-literal.ensures))
    (c.in_ok-in_out.ensures ∙ ap in_out c.in_ok-literal-2.ensures))
    (c.in_ok-file_system.ensures ∙ ap file_system c.in_ok-literal-3.ensures))
    (c.in_ok-storage.ensures ∙ ap storage c.in_ok-literal-4.ensures))
    (c.in_ok-program.ensures ∙ ap program c.in_ok-literal-5.ensures))
    (c.in_ok-channels.ensures ∙ ap channels c.in_ok-literal-6.ensures))
    (c.in_ok-system.ensures ∙ ap system c.in_ok-literal-7.ensures)
