-- Two answers of one text in one world are the same, where it has one fault or one meaning.
use Rattle.std.proofs.Common.{◌≡◌, inl, inr, ℕ, List, ap, sym, ◌∙◌, subst}
use Rattle.lil_resolved.specs.Resolved.{Resolved}
use Rattle.lil_meaning.specs.World.{World}
use Rattle.lil_session.specs.{declared.status.Status.Status, Outcome.{MeansAnswer, ReadsOne, TextAnswers}}
use Rattle.lil_session.specs.declared.status.Status.TheVariants as a
use Rattle.lil_session.proofs.Stays.{ends_agree}

means_agree : (p : Resolved) (w : World) (x y : Status) → MeansAnswer p w x → MeansAnswer p w y → x ≡ y
means_agree p w x y one other = ends_agree p w one.steps other.steps x y one.ends other.ends

pub texts_agree : (file text : List ℕ) → ReadsOne file text → (w : World) (x y : Status) → TextAnswers file text w x → TextAnswers file text w y → x ≡ y
texts_agree file text unique w x y (inl (f, has, one)) (inl (g, also, other)) = one ∙ ap a.SourceFault (unique.fault f g has also) ∙ sym other
texts_agree file text unique w x y (inl (f, has, one)) (inr (p, runs, other)) = absurd (unique.apart f p has runs)
texts_agree file text unique w x y (inr (p, runs, one)) (inl (f, has, other)) = absurd (unique.apart f p has runs)
texts_agree file text unique w x y (inr (p, runs, one)) (inr (q, also, other)) =
    means_agree p w x y one (subst (λ (r : Resolved). MeansAnswer r w y) (unique.means q p also runs) other)
