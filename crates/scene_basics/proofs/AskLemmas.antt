-- Lemmas on what is asked for, id after id.
use Rattle.std.proofs.Common.{◌≡◌, ◌<◌, ◌+◌, ℕ, zero, suc, List, [], ◌∷◌, ◌++◌, append_assoc, length, length-append, take, drop, take-append-drop, get_or, Option, Some, None, refl, sym, ◌∙◌, ap, subst, arith}
use Rattle.std.specs.List.{filter_map, cons_option}
use Rattle.std.specs.Option.{option_to_list}
use Rattle.std.proofs.lemmas.List.Elements.{filter_map-append}
use Rattle.scene_model.specs.Rulebook.{Fragment, Command, queue_room}
use Rattle.std.proofs.lemmas.List.{length-map}
use Rattle.scene_model.specs.declared.command.Command.{Command as CodeCommand}
use Rattle.scene_model.specs.declared.command.NotQueued.{NotQueued}
use Rattle.scene_model.specs.declared.command.NotQueued.TheVariants as refusals
use Rattle.scene_model.specs.Queues.{plain_command, plain_commands, IsFull}
use Rattle.shred_stages.specs.declared.stop.Stop.{Stop}
use Rattle.shred_stages.specs.declared.stop.Stop.TheVariants as stop
use Rattle.scene_world.specs.Stops.{stop_for}
use Rattle.scene_basics.specs.declared.data.Datum.{Datum}
use Rattle.scene_basics.specs.Numbers.{part_of}
use Rattle.scene_basics.specs.declared.data.Ask.{Ask}
use Rattle.scene_basics.specs.Asks.{asked_for, asked_of, IsNotAsked}
use Rattle.scene_basics.specs.Asked.{StopsAsking}

-- one in front, or none, and a list behind
cons_option-append : {X : Type 0} (o : Option X) (xs ys : List X) → cons_option o (xs ++ ys) ≡ cons_option o xs ++ ys
cons_option-append None xs ys = refl
cons_option-append (Some x) xs ys = refl

-- one alone, or none
cons_option-alone : {X : Type 0} (o : Option X) → cons_option o [] ≡ option_to_list o
cons_option-alone None = refl
cons_option-alone (Some x) = refl

-- one more id: what it gives stands behind what those before it gave
asked-suc : {X : Type 0} (f : ℕ → Option X) (ids : List ℕ) (place : ℕ) → place < length ids → filter_map f (take (suc place) ids) ≡ filter_map f (take place ids) ++ option_to_list (f (get_or ids place 0))
asked-suc f [] place within = absurd (omega arith)
asked-suc f (id ∷ ids) zero within = cons_option-alone (f id)
asked-suc f (id ∷ ids) (suc place) within = ap (cons_option (f id)) (asked-suc f ids place (omega arith)) ∙ cons_option-append (f id) (filter_map f (take place ids)) (option_to_list (f (get_or ids place 0)))

pub asked-next : {X : Type 0} (f : ℕ → Option X) (ids : List ℕ) (place : ℕ) → place < length ids → filter_map f (take (place + 1) ids) ≡ filter_map f (take place ids) ++ option_to_list (f (get_or ids place 0))
asked-next f ids place within = let more : place + 1 ≡ suc place = omega arith in ap (λ n. filter_map f (take n ids)) more ∙ asked-suc f ids place within

-- the front of a list
take-front : {X : Type 0} (n : ℕ) (xs ys : List X) → length xs ≡ n → take n (xs ++ ys) ≡ xs
take-front zero [] ys long = refl
take-front zero (x ∷ xs) ys long = absurd (omega (arith, long))
take-front (suc n) [] ys long = absurd (omega (arith, long))
take-front (suc n) (x ∷ xs) ys long = ap (λ rest. x ∷ rest) (take-front n xs ys (omega (arith, long)))

-- where a queue is full of what those before gave and one more gives something, there is more than it holds
pub asked-full : (f : ℕ → Option Command) (ids : List ℕ) (place : ℕ) (one : Command) → place < length ids → f (get_or ids place 0) ≡ Some one → length (filter_map f (take place ids)) ≡ queue_room → (queue_room < length (filter_map f ids)) × (filter_map f (take place ids) ≡ take queue_room (filter_map f ids))
asked-full f ids place one within gives long = (subst (λ all. queue_room < length all) (sym whole) more, sym (ap (take queue_room) whole ∙ take-front queue_room (filter_map f (take place ids)) (one ∷ rest) long))
  where
    rest : List Command
    rest = filter_map f (drop (suc place) ids)

    whole : filter_map f ids ≡ filter_map f (take place ids) ++ one ∷ rest
    whole = ap (filter_map f) (sym (take-append-drop (suc place) ids)) ∙ filter_map-append f (take (suc place) ids) (drop (suc place) ids) ∙ ap (λ front. front ++ rest) (asked-suc f ids place within ∙ ap (λ o. filter_map f (take place ids) ++ option_to_list o) gives) ∙ append_assoc (filter_map f (take place ids)) (one ∷ []) rest

    more : queue_room < length (filter_map f (take place ids) ++ one ∷ rest)
    more = omega (arith, length-append (filter_map f (take place ids)) (one ∷ rest), long)

-- a command that was not asked for stops the system, where all that is asked for is asked for some ids
pub stopped : (ask : Ask) (old : Fragment) (ids : List ℕ) (place : ℕ) (before after : List Command) (why : Stop) → filter_map (asked_for ask old) ids ≡ asked_of ask old → place < length ids → before ≡ filter_map (asked_for ask old) (take place ids)
    → IsNotAsked (asked_for ask old (get_or ids place 0)) before after why → StopsAsking ask old after why
stopped ask old ids place before after (stop.Refused text) all within so_far told = absurd told
stopped ask old ids place before after stop.Memory all within so_far told = tt
stopped ask old ids place before after stop.Full all within so_far told =
    let full = asked-full (asked_for ask old) ids place told.0 within told.1 (ap (λ some. length some) (sym so_far) ∙ told.2) in
    ((subst (λ list. queue_room < length list) all full.0, told.3 ∙ so_far ∙ full.1 ∙ ap (take queue_room) all), ap (λ some. length some) told.3 ∙ told.2)

-- a command that a queue did not take was not asked for
pub not-asked : (command : CodeCommand Datum) (old new : List (CodeCommand Datum)) (refused : NotQueued Datum) → new ≡ old → (IsFull refused → length old ≡ queue_room) → IsNotAsked (Some (plain_command part_of command)) (plain_commands part_of old) (plain_commands part_of new) (stop_for refused)
not-asked command old new (refusals.Full back) same full = (plain_command part_of command, refl, length-map old (plain_command part_of) ∙ full tt, ap (plain_commands part_of) same)
not-asked command old new (refusals.Memory back) same full = tt
