-- Which indices have a part after drops, and what drops after drops come to.
use Rattle.std.proofs.Common.{◌≡◌, ℕ, Bool, true, false, cond, not, ◌&&◌, ◌||◌, eqb, List, [], ◌∷◌, ◌++◌, Option, None, is_some, refl, ap, sym, ◌∙◌}
use Rattle.std.proofs.Math.Path.{fun_ext}
use Rattle.std.specs.List.{list_any}
use Rattle.specs_layouts.specs.Channels.{Log}
use Rattle.specs_layouts.specs.declared.track.ComponentEvent.{ComponentEvent}
use Rattle.specs_layouts.specs.declared.track.ComponentEvent.TheVariants as event
use Rattle.specs_layouts.specs.Parts.{SameParts, told}
use Rattle.specs_layouts.specs.Drops.{without, without_all, told_all, DropsAll}

one-less : {T : Type 0} (test : Bool) (part : Option T) → is_some (cond test None part) ≡ (not test && is_some part)
one-less true part = refl
one-less false part = refl

neither : (one rest part : Bool) → (not rest && (not one && part)) ≡ (not (one || rest) && part)
neither true true part = refl
neither true false part = refl
neither false rest part = refl

pub some-without : {T : Type 0} (parts : ℕ → Option T) (indices : List ℕ) (index : ℕ) → is_some (without_all parts indices index) ≡ (not (list_any (eqb index) indices) && is_some (parts index))
some-without parts [] index = refl
some-without parts (first ∷ rest) index =
    some-without (without parts first) rest index
    ∙ (ap (λ b. not (list_any (eqb index) rest) && b) (one-less (eqb index first) (parts index)) ∙ neither (eqb index first) (list_any (eqb index) rest) (is_some (parts index)))

pub dropped-parts : {T : Type 0} (before after : ℕ → Option T) (indices : List ℕ) → SameParts (without_all before indices) after → (index : ℕ) → is_some (after index) ≡ (not (list_any (eqb index) indices) && is_some (before index))
dropped-parts before after indices same index = ap is_some (same index) ∙ some-without before indices index

-- no part more is dropped for an empty list
pub drops-none : {T : Type 0} (parts : ℕ → Option T) (events : Log ComponentEvent) (emits : Bool) → DropsAll parts events emits [] parts events emits
drops-none parts events emits = record { parts = λ _. refl; events = refl; emission = refl }

without-append : {T : Type 0} (parts : ℕ → Option T) (xs ys : List ℕ) → without_all parts (xs ++ ys) ≡ without_all (without_all parts xs) ys
without-append parts [] ys = refl
without-append parts (x ∷ xs) ys = without-append (without parts x) xs ys

told-append : {T : Type 0} (emits : Bool) (parts : ℕ → Option T) (events : Log ComponentEvent) (xs ys : List ℕ)
    → told_all emits parts events (xs ++ ys) ≡ told_all emits (without_all parts xs) (told_all emits parts events xs) ys
told-append emits parts events [] ys = refl
told-append emits parts events (x ∷ xs) ys =
    told-append emits (without parts x) (cond (is_some (parts x)) (told emits events (event.Removed x)) events) xs ys

-- drops of one list and then of another are those of both lists, one behind the other
pub drops-append : {T : Type 0} (had has keeps : ℕ → Option T) (said says tells : Log ComponentEvent) (on still stays : Bool) (xs ys : List ℕ)
    → DropsAll had said on xs has says still → DropsAll has says still ys keeps tells stays → DropsAll had said on (xs ++ ys) keeps tells stays
drops-append {T} had has keeps said says tells on still stays xs ys first second =
    let mid : without_all had xs ≡ has = fun_ext (λ index. sym (first.parts index)) in
    record {
      parts = λ index. second.parts index ∙ ap (λ f. without_all f ys index) (sym mid) ∙ ap (λ f. f index) (sym (without-append had xs ys));
      events =
          second.events
          ∙ ap (λ f. told_all still f says ys) (sym mid)
          ∙ ap (λ log. told_all still (without_all had xs) log ys) first.events
          ∙ ap (λ b. told_all b (without_all had xs) (told_all on had said xs) ys) first.emission
          ∙ sym (told-append on had said xs ys);
      emission = second.emission ∙ first.emission;
    }
