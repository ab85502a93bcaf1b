-- How many commands wait in queues, and what they are up to one of the queues.
use Rattle.std.proofs.Common.{◌≡◌, ◌<◌, ◌≤◌, ◌+◌, ℕ, List, [], ◌∷◌, ◌++◌, map, length, get_or, take, drop, refl, ap, sym, ◌∙◌, subst, length-append, arith, All}
use Rattle.std.specs.List.{flat_map}
use Rattle.std.proofs.lemmas.List.{length-map, take-append-drop, take_more, append-nil}
use Rattle.std.proofs.lemmas.List.Elements.{All-nil, All-cons, All-head, All-tail}
use Rattle.std.proofs.lemmas.Grind.{flat_map-append}
use Rattle.scene_model.specs.declared.command.Queue.{Queue}
use Rattle.scene_model.specs.Parts.{Part}
use Rattle.scene_model.specs.Queues.{plain_command, plain_commands, waiting}
use Rattle.scene.specs.Waiting.{waiting_in}

-- what a function gives of a list up to behind a place
pub flat-more : {X Y : Type 0} (f : X → List Y) (xs : List X) (i : ℕ) (x : X) → i < length xs → x ≡ get_or xs i x → flat_map f (take (i + 1) xs) ≡ flat_map f (take i xs) ++ f x
flat-more f xs i x below is =
    ap (flat_map f) (take_more xs i x below ∙ ap (λ one. take i xs ++ one ∷ []) (sym is)) ∙ flat_map-append f (take i xs) (x ∷ []) ∙ ap (λ rest. flat_map f (take i xs) ++ rest) (append-nil (f x))

-- the front of what a function gives of a list
pub flat-front : {X Y : Type 0} (f : X → List Y) (xs : List X) (i : ℕ) → flat_map f xs ≡ flat_map f (take i xs) ++ flat_map f (drop i xs)
flat-front f xs i = ap (flat_map f) (sym (take-append-drop i xs)) ∙ flat_map-append f (take i xs) (drop i xs)

-- as many wait in plain terms as in those of the code
pub same-count : {D : Type 0} (part_of : D → Part) (queues : List (Queue D)) → length (waiting_in part_of queues) ≡ length (flat_map (λ queue. waiting queue) queues)
same-count part_of [] = refl
same-count part_of (queue ∷ queues) =
    length-append (plain_commands part_of (waiting queue)) (waiting_in part_of queues)
    ∙ ap (λ n. n + length (waiting_in part_of queues)) (length-map (waiting queue) (plain_command part_of))
    ∙ ap (λ n. length (waiting queue) + n) (same-count part_of queues)
    ∙ sym (length-append (waiting queue) (flat_map (λ one. waiting one) queues))

pub count-more : {D : Type 0} (queues : List (Queue D)) (i : ℕ) (queue : Queue D) → i < length queues → queue ≡ get_or queues i queue
    → length (flat_map (λ one. waiting one) (take (i + 1) queues)) ≡ length (flat_map (λ one. waiting one) (take i queues)) + length (waiting queue)
count-more queues i queue below is = ap length (flat-more (λ one. waiting one) queues i queue below is) ∙ length-append (flat_map (λ one. waiting one) (take i queues)) (waiting queue)

pub count-front : {D : Type 0} (queues : List (Queue D)) (i : ℕ) → length (flat_map (λ one. waiting one) (take i queues)) ≤ length (flat_map (λ one. waiting one) queues)
count-front queues i =
    let whole : length (flat_map (λ one. waiting one) queues) ≡ length (flat_map (λ one. waiting one) (take i queues)) + length (flat_map (λ one. waiting one) (drop i queues)) =
    ap length (flat-front (λ one. waiting one) queues i) ∙ length-append (flat_map (λ one. waiting one) (take i queues)) (flat_map (λ one. waiting one) (drop i queues)) in
    omega (arith, whole)

-- queues that hold the commands of places hold what waits at the places
pub flat-same : {X Z Y : Type 0} (f : X → List Y) (g : Z → List Y) (xs : List X) (zs : List Z) → map f xs ≡ map g zs → flat_map f xs ≡ flat_map g zs
flat-same {Y = Y} f g xs zs same = of f xs ∙ ap (flat_map (λ list. list)) same ∙ sym (of g zs)
  where
    of : {W : Type 0} (h : W → List Y) (ws : List W) → flat_map h ws ≡ flat_map (λ list. list) (map h ws)
    of h [] = refl
    of h (w ∷ ws) = ap (λ rest. h w ++ rest) (of h ws)

pub all-same : {X Z Y : Type 0} (P : Y → Type 0) (f : X → Y) (g : Z → Y) (xs : List X) (zs : List Z) → map f xs ≡ map g zs → All (λ z. P (g z)) zs → All (λ x. P (f x)) xs
all-same {Y = Y} P f g xs zs same all = back f xs (subst (All P) (sym same) (over g zs all))
  where
    over : {W : Type 0} (h : W → Y) (ws : List W) → All (λ w. P (h w)) ws → All P (map h ws)
    over h [] all = All-nil P
    over h (w ∷ ws) all = All-cons P (h w) (map h ws) (All-head (λ one. P (h one)) w ws all) (over h ws (All-tail (λ one. P (h one)) w ws all))

    back : {W : Type 0} (h : W → Y) (ws : List W) → All P (map h ws) → All (λ w. P (h w)) ws
    back h [] all = All-nil (λ one. P (h one))
    back h (w ∷ ws) all = All-cons (λ one. P (h one)) w ws (All-head P (h w) (map h ws) all) (back h ws (All-tail P (h w) (map h ws) all))

-- what holds of each holds of one at a place
pub holds-of : {X : Type 0} (P : X → Type 0) (xs : List X) (i : ℕ) (x : X) → i < length xs → x ≡ get_or xs i x → All P xs → P x
holds-of P xs i x below is all = subst P (sym is) (all i x below)
