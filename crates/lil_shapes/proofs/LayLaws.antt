-- Variables one behind another, one more at the end.
use Rattle.std.proofs.Common.{◌≡◌, ℕ, ◌+◌, ◌<◌, ◌≤◌, min, Bool, true, false, if◌then◌else◌, List, [], ◌∷◌, ◌++◌, length, map, take, get_or, slice_get, Option, None, Some, refl, sym, ap, ◌∙◌, arith}
use Rattle.std.specs.Option.{option_map}
use Rattle.std.proofs.lemmas.{List.{map_push, map_more}, Option.same_Some}
use Rattle.lil_declared.specs.declared.declared.RVar.{RVar}
use Rattle.lil_resolved.specs.{Kinds.{Shape, words, is_there, all_words, offsets_from, shape_by, shape_at}, Views.{name_of, offset_of, held_by, shape_declared}, declared.resolved.{RDeclared.RDeclared, RPassing.RPassing}}
use Rattle.lil_resolved.specs.declared.resolved.RPassing.TheVariants as passing
use Rattle.lil_shapes.specs.{declared.{laying.Laid.Laid, shapes.Shaped.Shaped}, Measured.{shapes_in, words_held, variable_name, shapes_laid, IsLaidFrom, IsLaid}, Shaping.{there, passing_of, lying}, ListLaws.some_more}
use Rattle.lil_shapes.proofs.ShapeLaws.{words_more, offsets_more}

-- variables so far, and how many words they take
abbrev pub laid_with : List RDeclared → ℕ → Laid
laid_with ds n = record { variables = ds; words = n }

-- a variable with words has a shape that is there
there_if : (s : Shape) (b : Bool) (w : ℕ) → Some w ≡ option_map words (if b then Some s else None) → ((if b then Some s else None) ≡ Some s) × (w ≡ words s)
there_if s true w h = (refl, same_Some w (words s) h)
there_if s false w h = absurd (cc)

there_known : (o : Option Shape) (w : ℕ) → Some w ≡ option_map words (there o) → (there o ≡ Some (shape_by o)) × (w ≡ words (shape_by o))
there_known None w h = absurd (cc)
there_known (Some s) w h = there_if s (is_there s) w h

there_none : (o : Option Shape) → None ≡ option_map words o → o ≡ None
there_none None h = refl
there_none (Some s) h = absurd (cc)

pub lying_none : (s : Shaped) (v : RVar) → None ≡ option_map words (there (slice_get (shapes_in s) v.sort)) → lying (shapes_in s) v ≡ None
lying_none s v h = ap (option_map (held_by (passing_of v.mode))) (there_none (there (slice_get (shapes_in s) v.sort)) h)

held_words : (p : RPassing) (t : Shape) → words_held p (words t) ≡ words (held_by p t)
held_words passing.ByValue t = refl
held_words passing.ByPlace t = refl
held_words (passing.Open o) t = refl

-- one variable more
module _ (first : ℕ) (s : Shaped) (vs : List RVar) (i : ℕ) (v : RVar) (ds : List RDeclared) (n w : ℕ) (p : RPassing) (inside : i < length vs) (at : v ≡ get_or vs i v) (h : IsLaidFrom first s (take i vs) (laid_with ds n))
    (known : Some w ≡ option_map words (there (slice_get (shapes_in s) v.sort))) (passed : p ≡ passing_of v.mode) where
  pub variable_laid : (new : List RDeclared) (d : RDeclared) (e : ℕ) → new ≡ ds ++ d ∷ [] → d.name ≡ v.name → d.offset ≡ min (n + first) 65535 → d.shape ≡ v.sort → d.passing ≡ p → e ≡ min (n + words_held p w) 65535 → IsLaidFrom first s (take (i + 1) vs) (laid_with new e)
  variable_laid new d e is name offset sort value next =
      let before = shapes_laid s (laid_with ds n) in
      let part = there_known (slice_get (shapes_in s) v.sort) w known in
      let here : held_by p (shape_at (shapes_in s) v.sort) ≡ shape_declared s.shapes d = λ j. held_by (sym value j) (shape_at (shapes_in s) (sym sort j)) in
      let lies : lying (shapes_in s) v ≡ Some (shape_declared s.shapes d) = (λ j. option_map (held_by (sym passed j)) (part.0 j)) ∙ ap Some here in
      let more : map (shape_declared s.shapes) new ≡ before ++ shape_declared s.shapes d ∷ [] = ap (map (shape_declared s.shapes)) is ∙ map_push (shape_declared s.shapes) ds d in
      let last : words_held p w ≡ words (shape_declared s.shapes d) = ap (words_held p) part.1 ∙ held_words p (shape_at (shapes_in s) v.sort) ∙ ap words here in
      let from : d.offset ≡ min 65535 (first + all_words before) = omega (arith, offset, h.words) in
      let end : e ≡ min 65535 (all_words before + words (shape_declared s.shapes d)) = omega (arith, next, h.words, last) in
      record {
        shapes = some_more (lying (shapes_in s)) vs i v (shape_declared s.shapes d) before inside at lies h.shapes ∙ ap Some (sym more);
        names = ap (map name_of) is ∙ map_push name_of ds d ∙ (λ j. h.names j ++ (name ∙ ap variable_name at) j ∷ []) ∙ sym (map_more variable_name vs i v inside);
        offsets = ap (map offset_of) is ∙ map_push offset_of ds d ∙ (λ j. h.offsets j ++ from j ∷ [])
            ∙ sym (ap (λ ss. map (min 65535) (offsets_from first ss)) more ∙ ap (map (min 65535)) (offsets_more first before (shape_declared s.shapes d)) ∙ map_push (min 65535) (offsets_from first before) (first + all_words before));
        words = end ∙ ap (min 65535) (sym (ap all_words more ∙ words_more before (shape_declared s.shapes d)));
      }

-- ---- all variables of a module
all_counted : (n : ℕ) (ss : List Shape) → n + all_words ss ≤ 65535 → map (min 65535) (offsets_from n ss) ≡ offsets_from n ss
all_counted n [] few = refl
all_counted n (s ∷ ss) few = let low : min 65535 n ≡ n = omega (arith, few) in λ j. low j ∷ all_counted (n + words s) ss (omega (arith, few)) j

pub laid_within : (s : Shaped) (vs : List RVar) (l : Laid) → IsLaidFrom 0 s vs l → l.words ≤ 32000 → IsLaid s vs l
laid_within s vs l h few = record {
  shapes = h.shapes;
  names = h.names;
  offsets = h.offsets ∙ all_counted 0 (shapes_laid s l) (omega (arith, h.words, few));
  words = omega (arith, h.words, few);
  few = few;
}
