-- Facts on systems that are away with their groups, and come back.
use Rattle.std.proofs.Common.{◌≡◌, ◌≢◌, ℕ, zero, suc, List, [], ◌∷◌, ◌++◌, length, map, get_or, refl, ap, sym, ◌∙◌, subst, arith, ◌⊎◌, inl, inr, Option, Some, None, IsSome}
use Rattle.std.specs.Prelude.{slice_get}
use Rattle.std.specs.List.{All, AllZip}
use Rattle.std.specs.Option.{MatchOption, option_map, option_to_list}
use Rattle.std.proofs.Math.ListN.{set}
use Rattle.std.proofs.lemmas.Bool.{false≢true}
use Rattle.std.proofs.lemmas.List.{append_assoc, append-nil, map-set}
use Rattle.std.proofs.lemmas.Option.{slice_get-map, get_or_from_slice_get}
use Rattle.shred_world.specs.declared.resource_id.ResourceId.{ResourceId}
use Rattle.shred_plan.specs.Plan.{Placing, Group, Stage}
use Rattle.shred_plan.specs.Laws.{numbers_of}
use Rattle.shred_stages.specs.declared.turn.Staged.{Staged}
use Rattle.shred_stages.specs.Moves.{IsSeat}
use Rattle.shred_stages.specs.Seats.{IsSeated, AreSeated, StageIsSeated, SeatsKept}
use Rattle.shred_stages.specs.Apart.{StandAt, put_systems}
use Rattle.shred_stages.specs.Packs.{Packed, ArePlaced}
use Rattle.shred_stages.specs.Lending.{put_all}
use Rattle.shred_stages.specs.Free.{IsNone, AreDistinct, ShareNone, IsFreeOfAll}
use Rattle.shred_stages.specs.Away.{vacated, standing, returned, systems_in, AreIn, ArePutBack}
use Rattle.shred_stages.specs.Loading.{IsAmong, stage_numbers, AtPlace, AreAway}
use Rattle.shred_crew.proofs.CallerLemmas.{length-set}
use Rattle.shred_stages.proofs.ApartLemmas.{set-other}

-- places of a list

nat-same : (a b : ℕ) → (a ≡ b) ⊎ (a ≢ b)
nat-same zero zero = inl refl
nat-same zero (suc b) = inr (λ e. absurd (omega (arith, e)))
nat-same (suc a) zero = inr (λ e. absurd (omega (arith, e)))
nat-same (suc a) (suc b) = by (nat-same a b)
  where
    by : (a ≡ b) ⊎ (a ≢ b) → (suc a ≡ suc b) ⊎ (suc a ≢ suc b)
    by (inl e) = inl (ap suc e)
    by (inr n) = inr (λ e. n (omega (arith, e)))

set-here : {A : Type 0} (xs : List A) (n k : ℕ) (a : A) → n ≡ k → slice_get (set xs n a) k ≡ option_map (λ _. a) (slice_get xs k)
set-here [] n k a e = refl
set-here (x ∷ xs) zero zero a e = refl
set-here (x ∷ xs) zero (suc k) a e = absurd (omega (arith, e))
set-here (x ∷ xs) (suc n) zero a e = absurd (omega (arith, e))
set-here (x ∷ xs) (suc n) (suc k) a e = set-here xs n k a (omega (arith, e))

-- numbers that are among some

among-first : (k : ℕ) (numbers others : List ℕ) → IsAmong k numbers → IsAmong k (numbers ++ others)
among-first k [] others among = absurd among
among-first k (n ∷ numbers) others (inl e) = inl e
among-first k (n ∷ numbers) others (inr among) = inr (among-first k numbers others among)

among-last : (k : ℕ) (numbers : List ℕ) (n : ℕ) → n ≡ k → IsAmong k (numbers ++ n ∷ [])
among-last k [] n e = inl e
among-last k (m ∷ numbers) n e = inr (among-last k numbers n e)

among-either : (k : ℕ) (numbers others : List ℕ) → IsAmong k (numbers ++ others) → IsAmong k numbers ⊎ IsAmong k others
among-either k [] others among = inr among
among-either k (n ∷ numbers) others (inl e) = inl (inl e)
among-either k (n ∷ numbers) others (inr among) = by (among-either k numbers others among)
  where
    by : IsAmong k numbers ⊎ IsAmong k others → IsAmong k (n ∷ numbers) ⊎ IsAmong k others
    by (inl a) = inl (inr a)
    by (inr b) = inr b

-- no system of a group, or of a stage, has one of some numbers
abbrev pub Misses : Group ResourceId → List ℕ → Type 0
Misses [] numbers = Unit {0}
Misses (one ∷ others) numbers = (IsAmong one.number numbers → ⊥) × Misses others numbers

abbrev pub StageMisses : Stage ResourceId → List ℕ → Type 0
StageMisses [] numbers = Unit {0}
StageMisses (group ∷ stage) numbers = Misses group numbers × StageMisses stage numbers

misses-none : (group : Group ResourceId) → Misses group []
misses-none [] = tt
misses-none (one ∷ others) = (λ among. among, misses-none others)

pub stage-misses-none : (stage : Stage ResourceId) → StageMisses stage []
stage-misses-none [] = tt
stage-misses-none (group ∷ stage) = (misses-none group, stage-misses-none stage)

misses-both : (group : Group ResourceId) (numbers others : List ℕ) → Misses group numbers → Misses group others → Misses group (numbers ++ others)
misses-both [] numbers others a b = tt
misses-both (one ∷ rest) numbers others a b = (λ among. by (among-either one.number numbers others among), misses-both rest numbers others a.1 b.1)
  where
    by : IsAmong one.number numbers ⊎ IsAmong one.number others → ⊥
    by (inl x) = a.0 x
    by (inr y) = b.0 y

misses-more : (group : Group ResourceId) (n : ℕ) (numbers : List ℕ) → IsNone n group → Misses group numbers → Misses group (n ∷ numbers)
misses-more [] n numbers none a = tt
misses-more (one ∷ others) n numbers none a = (λ among. by among, misses-more others n numbers none.1 a.1)
  where
    by : (n ≡ one.number) ⊎ IsAmong one.number numbers → ⊥
    by (inl e) = none.0 e
    by (inr x) = a.0 x

misses-group : (group other : Group ResourceId) → ShareNone group other → Misses other (numbers_of group)
misses-group [] other share = misses-none other
misses-group (one ∷ others) other share = misses-more other one.number (numbers_of others) share.0 (misses-group others other share.1)

-- a group that is lent its systems leaves those of the others where they are
pub stage-misses-more : (group : Group ResourceId) (stage : Stage ResourceId) (numbers : List ℕ) → IsFreeOfAll group stage → StageMisses stage numbers → StageMisses stage (numbers ++ numbers_of group)
stage-misses-more group [] numbers free a = tt
stage-misses-more group (other ∷ stage) numbers free a =
    (misses-both other numbers (numbers_of group) a.0 (misses-group group other free.0.numbers), stage-misses-more group stage numbers free.1 a.1)

-- slots, place by place

module _ {A : Type 0} where
  is-some : (there : Option A) (x : A) → there ≡ Some x → IsSome there
  is-some None x e = absurd (let f : None ≡ Some x = e in cc)
  is-some (Some y) x e = refl

  emptied : (slot : Option (Option A)) (there : Option A) (Away Away2 : Type 0) → AtPlace slot there Away → Away2 → AtPlace (option_map (λ _. None) slot) there Away2
  emptied None there Away Away2 at away = at
  emptied (Some None) there Away Away2 at away = (away, at.1)
  emptied (Some (Some x)) there Away Away2 at away = (away, is-some there x at)

  weaker : (slot : Option (Option A)) (there : Option A) (Away Away2 : Type 0) → (Away → Away2) → AtPlace slot there Away → AtPlace slot there Away2
  weaker None there Away Away2 f at = at
  weaker (Some None) there Away Away2 f at = (f at.0, at.1)
  weaker (Some (Some x)) there Away Away2 f at = at

  refilled : (slot : Option (Option A)) (there : Option A) (one : A) (Away Away2 : Type 0) → AtPlace slot there Away → AtPlace (option_map (λ _. Some one) slot) (option_map (λ _. one) there) Away2
  refilled None there one Away Away2 at = ap (option_map (λ _. one)) at
  refilled (Some None) None one Away Away2 at = absurd (false≢true at.1)
  refilled (Some None) (Some y) one Away Away2 at = refl
  refilled (Some (Some x)) there one Away Away2 at = ap (option_map (λ _. one)) at

  away-one : (slots : List (Option A)) (all : List A) (numbers : List ℕ) (n : ℕ) → AreAway slots all numbers → AreAway (set slots n None) all (numbers ++ n ∷ [])
  away-one slots all numbers n away k = by (nat-same n k)
    where
      by : (n ≡ k) ⊎ (n ≢ k) → AtPlace (slice_get (set slots n None) k) (slice_get all k) (IsAmong k (numbers ++ n ∷ []))
      by (inl e) =
          let P : Option (Option A) → Type 0 = λ slot. AtPlace slot (slice_get all k) (IsAmong k (numbers ++ n ∷ [])) in
          subst P (sym (set-here slots n k None e)) (emptied (slice_get slots k) (slice_get all k) (IsAmong k numbers) (IsAmong k (numbers ++ n ∷ [])) (away k) (among-last k numbers n e))
      by (inr other) =
          let P : Option (Option A) → Type 0 = λ slot. AtPlace slot (slice_get all k) (IsAmong k (numbers ++ n ∷ [])) in
          subst P (sym (set-other slots n k None other)) (weaker (slice_get slots k) (slice_get all k) (IsAmong k numbers) (IsAmong k (numbers ++ n ∷ [])) (among-first k numbers (n ∷ [])) (away k))

  -- a group's systems go away
  pub away-group : (group : Group ResourceId) (slots : List (Option A)) (all : List A) (numbers : List ℕ) → AreAway slots all numbers → AreAway (vacated group slots) all (numbers ++ numbers_of group)
  away-group [] slots all numbers away = let P : List ℕ → Type 0 = λ list. AreAway slots all list in subst P (sym (append-nil numbers)) away
  away-group (one ∷ others) slots all numbers away =
      let P : List ℕ → Type 0 = λ list. AreAway (vacated others (set slots one.number None)) all list in
      subst P (append_assoc numbers (one.number ∷ []) (numbers_of others)) (away-group others (set slots one.number None) all (numbers ++ one.number ∷ []) (away-one slots all numbers one.number away))

  back-one : (slots : List (Option A)) (all : List A) (numbers : List ℕ) (n : ℕ) (one : A) → AreAway slots all (n ∷ numbers) → AreAway (set slots n (Some one)) (set all n one) numbers
  back-one slots all numbers n one away k = by (nat-same n k)
    where
      by : (n ≡ k) ⊎ (n ≢ k) → AtPlace (slice_get (set slots n (Some one)) k) (slice_get (set all n one) k) (IsAmong k numbers)
      by (inl e) =
          let P : Option (Option A) → Type 0 = λ slot. AtPlace slot (slice_get (set all n one) k) (IsAmong k numbers) in
          let Q : Option A → Type 0 = λ there. AtPlace (option_map (λ _. Some one) (slice_get slots k)) there (IsAmong k numbers) in
          subst P (sym (set-here slots n k (Some one) e))
          (subst Q (sym (set-here all n k one e)) (refilled (slice_get slots k) (slice_get all k) one (IsAmong k (n ∷ numbers)) (IsAmong k numbers) (away k)))
      by (inr other) =
          let P : Option (Option A) → Type 0 = λ slot. AtPlace slot (slice_get (set all n one) k) (IsAmong k numbers) in
          let Q : Option A → Type 0 = λ there. AtPlace (slice_get slots k) there (IsAmong k numbers) in
          subst P (sym (set-other slots n k (Some one) other))
          (subst Q (sym (set-other all n k one other)) (weaker (slice_get slots k) (slice_get all k) (IsAmong k (n ∷ numbers)) (IsAmong k numbers) (λ among. not-first among) (away k)))
        where
          not-first : (n ≡ k) ⊎ IsAmong k numbers → IsAmong k numbers
          not-first (inl e) = absurd (other e)
          not-first (inr among) = among

  there-still : (slots : List (Option A)) (all : List A) (numbers : List ℕ) (n : ℕ) (x : A) → AreAway slots all numbers → (IsAmong n numbers → ⊥) → slice_get all n ≡ Some x → slice_get slots n ≡ Some (Some x)
  there-still slots all numbers n x away misses there = by (slice_get slots n) refl (away n)
    where
      by : (slot : Option (Option A)) → slice_get slots n ≡ slot → AtPlace slot (slice_get all n) (IsAmong n numbers) → slice_get slots n ≡ Some (Some x)
      by None is at = absurd (let f : Some x ≡ None = sym there ∙ at in cc)
      by (Some None) is at = absurd (misses at.0)
      by (Some (Some y)) is at = is ∙ ap (λ o. Some o) (sym at ∙ there)

  -- all are in their slots

  pub systems-in-all : (all : List A) → systems_in (map Some all) ≡ all
  systems-in-all [] = refl
  systems-in-all (x ∷ all) = ap (λ list. x ∷ list) (systems-in-all all)

  none-away : (all : List A) → AreAway (map Some all) all []
  none-away [] k = refl
  none-away (x ∷ all) zero = refl
  none-away (x ∷ all) (suc k) = none-away all k

  pub in-away : (slots : List (Option A)) → AreIn slots → AreAway slots (systems_in slots) []
  in-away slots are = let P : List (Option A) → Type 0 = λ list. AreAway list (systems_in slots) [] in subst P (sym are) (none-away (systems_in slots))

  all-back-in : (slots : List (Option A)) (all : List A) → AreAway slots all [] → slots ≡ map Some all
  all-back-in [] [] away = refl
  all-back-in [] (x ∷ all) away = absurd (let f : Some x ≡ None = away 0 in cc)
  all-back-in (None ∷ slots) [] away = absurd ((away 0).0)
  all-back-in (Some y ∷ slots) [] away = absurd (let f : None ≡ Some y = away 0 in cc)
  all-back-in (None ∷ slots) (x ∷ all) away = absurd ((away 0).0)
  all-back-in (Some y ∷ slots) (x ∷ all) away =
      let f : Some x ≡ Some y = away 0 in
      let same : y ≡ x = cc in
      ap (λ z. Some z ∷ slots) same ∙ ap (λ list. Some x ∷ list) (all-back-in slots all (λ k. away (suc k)))

  pub back-in : (slots : List (Option A)) (all : List A) → AreAway slots all [] → AreIn slots × (systems_in slots ≡ all)
  back-in slots all away =
      let is = all-back-in slots all away in
      let same : systems_in slots ≡ all = ap systems_in is ∙ systems-in-all all in
      (is ∙ ap (map Some) (sym same), same)

-- as many slots as systems
pub in-length : {A : Type 0} (slots : List (Option A)) → AreIn slots → length slots ≡ length (systems_in slots)
in-length slots are = ap length are ∙ each-length (systems_in slots)
  where
    each-length : {A : Type 0} (xs : List A) → length (map Some xs) ≡ length xs
    each-length [] = refl
    each-length (x ∷ xs) = ap suc (each-length xs)

all-parts : {A : Type 0} (P : A → Type 0) (x : A) (xs : List A) → All P (x ∷ xs) → P x × All P xs
all-parts P x xs all = (all 0 x (omega arith), λ k d h. all (suc k) d (omega (arith, h)))

module _ {V S : Type 0} where
  -- the systems of a group, as they stand in their slots
  pub standing-group : (group : Group ResourceId) (slots : List (Option (Staged V S))) (all : List (Staged V S)) (numbers : List ℕ) → AreAway slots all numbers → Misses group numbers → AreDistinct group → AreSeated group all
      → ArePlaced group (standing group slots) × StandAt (map (λ one. one.system) all) group (map (λ one. one.system) (standing group slots))
  standing-group [] slots all numbers away misses distinct seated = (tt, tt)
  standing-group (one ∷ others) slots all numbers away misses distinct seated =
      by (slice_get all one.number) refl (all-parts (IsSeated all) one others seated).0
      (standing-group others (set slots one.number None) all (numbers ++ one.number ∷ []) (away-one slots all numbers one.number away)
      (misses-both others numbers (one.number ∷ []) misses.1 (misses-more others one.number [] distinct.0 (misses-none others))) distinct.1 (all-parts (IsSeated all) one others seated).1)
    where
      by : (o : Option (Staged V S)) → slice_get all one.number ≡ o → MatchOption o ⊥ (λ there. IsSeat one.writes there.seat)
          → ArePlaced others (standing others (set slots one.number None)) × StandAt (map (λ s. s.system) all) others (map (λ s. s.system) (standing others (set slots one.number None)))
          → ArePlaced (one ∷ others) (standing (one ∷ others) slots) × StandAt (map (λ s. s.system) all) (one ∷ others) (map (λ s. s.system) (standing (one ∷ others) slots))
      by None is seat later = absurd seat
      by (Some x) is seat later =
          let there : get_or slots one.number None ≡ Some x = get_or_from_slice_get slots one.number (Some x) None (there-still slots all numbers one.number x away misses.0 is) in
          let P : Option (Staged V S) → Type 0 = λ o. ArePlaced (one ∷ others) (option_to_list o ++ standing others (set slots one.number None)) × StandAt (map (λ s. s.system) all) (one ∷ others) (map (λ s. s.system) (option_to_list o ++ standing others (set slots one.number None))) in
          subst P (sym there) ((seat, later.0), (slice_get-map (λ s. s.system) all one.number ∙ ap (option_map (λ s. s.system)) is, later.1))

  -- a group's systems come back
  pub back-group : (group : Group ResourceId) (staged : List (Staged V S)) (slots : List (Option (Staged V S))) (all : List (Staged V S)) (numbers : List ℕ) → ArePlaced group staged → AreAway slots all (numbers_of group ++ numbers)
      → AreAway (returned group staged slots) (put_systems group staged all) numbers
  back-group [] [] slots all numbers placed away = away
  back-group [] (x ∷ staged) slots all numbers placed away = absurd placed
  back-group (one ∷ others) [] slots all numbers placed away = absurd placed
  back-group (one ∷ others) (x ∷ staged) slots all numbers placed away =
      back-group others staged (set slots one.number (Some x)) (set all one.number x) numbers placed.1 (back-one slots all (numbers_of others ++ numbers) one.number x away)

  put-each : (group : Group ResourceId) (staged all : List (Staged V S)) → map (λ s. s.system) (put_systems group staged all) ≡ put_systems group (map (λ s. s.system) staged) (map (λ s. s.system) all)
  put-each [] staged all = refl
  put-each (one ∷ others) [] all = refl
  put-each (one ∷ others) (x ∷ staged) all = put-each others staged (set all one.number x) ∙ ap (put_systems others (map (λ s. s.system) staged)) (map-set (λ s. s.system) all one.number x)

  put-length : (group : Group ResourceId) (staged all : List (Staged V S)) → length (put_systems group staged all) ≡ length all
  put-length [] staged all = refl
  put-length (one ∷ others) [] all = refl
  put-length (one ∷ others) (x ∷ staged) all = put-length others staged (set all one.number x) ∙ length-set all one.number x

  -- each seat is like the one that was there
  kept-one : (all : List (Staged V S)) (one : Placing ResourceId) (x : Staged V S) → IsSeated all one → IsSeat one.writes x.seat → SeatsKept all (set all one.number x)
  kept-one all one x here seat other seated = by (nat-same one.number other.number)
    where
      same : (o : Option (Staged V S)) → MatchOption o ⊥ (λ there. IsSeat one.writes there.seat) → MatchOption o ⊥ (λ there. IsSeat other.writes there.seat) → MatchOption (option_map (λ _. x) o) ⊥ (λ there. IsSeat other.writes there.seat)
      same None a b = absurd a
      same (Some there) a b = λ id. seat id ∙ sym (a id) ∙ b id

      by : (one.number ≡ other.number) ⊎ (one.number ≢ other.number) → IsSeated (set all one.number x) other
      by (inl e) =
          let P : Option (Staged V S) → Type 0 = λ o. MatchOption o ⊥ (λ there. IsSeat other.writes there.seat) in
          let Q : ℕ → Type 0 = λ n. MatchOption (slice_get all n) ⊥ (λ there. IsSeat one.writes there.seat) in
          subst P (sym (set-here all one.number other.number x e)) (same (slice_get all other.number) (subst Q e here) seated)
      by (inr ne) = let P : Option (Staged V S) → Type 0 = λ o. MatchOption o ⊥ (λ there. IsSeat other.writes there.seat) in subst P (sym (set-other all one.number other.number x ne)) seated

  seated-still : (group : Group ResourceId) (all after : List (Staged V S)) → SeatsKept all after → AreSeated group all → AreSeated group after
  seated-still group all after kept seated k d h = kept (get_or group k d) (seated k d h)

  kept-group : (group : Group ResourceId) (staged all : List (Staged V S)) → ArePlaced group staged → AreSeated group all → SeatsKept all (put_systems group staged all)
  kept-group [] staged all placed seated = λ other there. there
  kept-group (one ∷ others) [] all placed seated = absurd placed
  kept-group (one ∷ others) (x ∷ staged) all placed seated =
      let parts = all-parts (IsSeated all) one others seated in
      let first = kept-one all one x parts.0 placed.0 in
      λ other there. kept-group others staged (set all one.number x) placed.1 (seated-still others all (set all one.number x) first parts.1) other (first other there)

  -- the systems of all groups come back
  pub back-stage : (stage : Stage ResourceId) (packs : List (Packed V S)) (slots last : List (Option (Staged V S))) (all : List (Staged V S)) → AllZip (λ group pack. pack.group ≡ group) stage packs → StageIsSeated stage all
      → AreAway slots all (stage_numbers stage) → ArePutBack packs slots last
      → (after : List (Staged V S)) × AreAway last after [] × (map (λ s. s.system) after ≡ put_all stage packs (map (λ s. s.system) all)) × SeatsKept all after × (length after ≡ length all)
  back-stage [] [] slots last all are seated away back = let P : List (Option (Staged V S)) → Type 0 = λ list. AreAway list all [] in (all, subst P (sym back) away, refl, (λ other there. there), refl)
  back-stage [] (pack ∷ packs) slots last all are seated away back = absurd are
  back-stage (group ∷ stage) [] slots last all are seated away back = absurd are
  back-stage (group ∷ stage) (pack ∷ packs) slots last all are seated away (between, one, later) =
      let P : Group ResourceId → Type 0 = λ g. ArePlaced g one.staged in
      let placed : ArePlaced group one.staged = subst P are.0 one.placed in
      let now : between ≡ returned group one.staged slots = one.slots ∙ ap (λ g. returned g one.staged slots) are.0 in
      let parts = all-parts (λ g. AreSeated g all) group stage seated in
      let next = put_systems group one.staged all in
      let kept : SeatsKept all next = kept-group group one.staged all placed parts.0 in
      let Q : List (Option (Staged V S)) → Type 0 = λ list. AreAway list next (stage_numbers stage) in
      let still : StageIsSeated stage next = λ k d h. seated-still (get_or stage k d) all next kept (parts.1 k d h) in
      let rest = back-stage stage packs between last next are.1 still (subst Q (sym now) (back-group group one.staged slots all (stage_numbers stage) placed away)) later in (
        rest.0,
        rest.1,
        rest.2 ∙ ap (put_all stage packs) (put-each group one.staged all ∙ ap (λ list. put_systems group list (map (λ s. s.system) all)) one.systems),
        (λ other there. rest.3 other (kept other there)),
        rest.4 ∙ put-length group one.staged all,
      )
