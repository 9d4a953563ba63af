-- What a reader had left, where that is known, after a read up to a limit.
use Rattle.std.proofs.Common.{◌≡◌, ℕ, ◌<◌, List, [], ◌++◌, length, take, Option, None, Some, IfSome, ◌∙◌, ap, subst, arith}
use Rattle.std.proofs.lemmas.List.{take_all, length-take}
use Rattle.std.specs.Option.{option_map}

under : (known : Option (List ℕ)) (limit : ℕ) (bytes : List ℕ) → IfSome (option_map (take limit) known) (λ given. bytes ≡ given) → length bytes < limit → IfSome known (λ all. bytes ≡ all)
under None limit bytes is below = tt
under (Some all) limit bytes is below = is ∙ take_all limit all (omega (arith, length-take limit all, ap length is))

same_start : (limited : Option (List ℕ)) (before got bytes : List ℕ) → before ≡ [] → bytes ≡ got → IfSome limited (λ given. got ≡ before ++ given) → IfSome limited (λ given. bytes ≡ given)
same_start None before got bytes empty same given = tt
same_start (Some some) before got bytes empty same given = same ∙ given ∙ ap (λ (front : List ℕ). front ++ some) empty

limit_is : {R : Type 0} (remaining : R → Option (List ℕ)) (inner file : R) (limit most : ℕ) → limit ≡ most → inner ≡ file → option_map (take limit) (remaining inner) ≡ option_map (take most) (remaining file)
limit_is {R} remaining inner file limit most at of =
    ap (λ (l : ℕ). option_map (take l) (remaining inner)) at ∙ ap (λ (r : R). option_map (take most) (remaining r)) of

-- fewer bytes than the limit are all that there were
pub under_limit : {R : Type 0} (remaining : R → Option (List ℕ)) (inner file : R) (limit most : ℕ) (before got bytes : List ℕ) → limit ≡ most → inner ≡ file → before ≡ [] → bytes ≡ got → IfSome (option_map (take limit) (remaining inner)) (λ given. got ≡ before ++ given) → length bytes < most → IfSome (remaining file) (λ all. bytes ≡ all)
under_limit remaining inner file limit most before got bytes at of empty same given below =
    let whole : IfSome (option_map (take limit) (remaining inner)) (λ some. bytes ≡ some) = same_start (option_map (take limit) (remaining inner)) before got bytes empty same given in
    under (remaining file) most bytes (subst (λ (o : Option (List ℕ)). IfSome o (λ some. bytes ≡ some)) (limit_is remaining inner file limit most at of) whole) below
