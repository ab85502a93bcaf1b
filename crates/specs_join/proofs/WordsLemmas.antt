-- Words whose bits are gone through, the lowest first.
use Rattle.std.proofs.Common.{◌≡◌, ◌≢◌, ℕ, ◌+◌, ◌*◌, ◌/◌, ◌%◌, ◌<◌, ◌≤◌, ltb, eqb, Bool, true, false, not, ◌&&◌, ◌||◌, inl, inr, refl, sym, ap, subst, ◌∙◌, arith}
use Rattle.std.proofs.lemmas.Bool.{cases_eq, cases_lt, true≢false, eq-eqb, ne_eqb, eqb-true, lt-ltb, le-ltb, and_parts}
use Rattle.hibitset_sets.specs.Bits.{has_bit, TakesBit}
use Rattle.hibitset_sets.specs.Words.{is_marked, StandsOver}
use Rattle.hibitset_sets.specs.BitLemmas.{has_bit-zero, has_bit-not}
use Rattle.specs_join.specs.Tested.{in_word, in_group, IsRest}
use Rattle.specs_join.proofs.TestedLemmas.{Precedes}

-- ---- what is left of a word

pub rest-first : (word : ℕ) → IsRest word word
rest-first word = record { within = λ bit low has. has; later = λ one other low low' has not_left left. absurd (true≢false (sym has ∙ not_left)) }

pub rest-next : (word left place rest : ℕ) → IsRest word left → TakesBit left place rest → IsRest word rest
rest-next word left place rest is takes =
    record {
      within = λ bit low has. is.within bit low (sym (takes.stay bit low (λ e. true≢false (sym has ∙ (ap (has_bit rest) e ∙ takes.gone)))) ∙ has);
      later = λ one other low low' has gone stays.
          let apart : other ≢ place = λ e. true≢false (sym stays ∙ (ap (has_bit rest) e ∙ takes.gone)) in
          let was : has_bit left other ≡ true = sym (takes.stay other low' apart) ∙ stays in
          elim (cases_eq one place) [
            | inl here ↦ elim (cases_lt place other) [
              | inl less ↦ omega (arith, here, less)
              | inr least ↦ absurd (true≢false (sym was ∙ takes.least other (omega (arith, least, apart))))
            ]
            | inr there ↦ is.later one other low low' has (sym (takes.stay one low there) ∙ gone) was
          ];
    }

-- no bit up to the one that was taken is left
rest-below : (left place rest : ℕ) → TakesBit left place rest → (bit : ℕ) → bit ≤ place → has_bit rest bit ≡ false
rest-below left place rest takes bit most = elim (cases_eq bit place) [
  | inl here ↦ ap (has_bit rest) here ∙ takes.gone
  | inr apart ↦ let within = takes.within in takes.stay bit (omega (arith, within, most)) apart ∙ takes.least bit (omega (arith, most, apart))
]

ones : (bit : ℕ) → bit < 64 → has_bit 18446744073709551615 bit ≡ true
ones bit low = has_bit-not 0 bit (omega arith) low ∙ ap not (has_bit-zero bit)

-- ---- what passes before a step, at it and behind it

or_none : (b : Bool) → b ≡ (b || false)
or_none true = refl
or_none false = refl

pub and_none : (b : Bool) → (b && false) ≡ false
and_none true = refl
and_none false = refl

nowhere : (m l s q : Bool) → m ≡ false → q ≡ false → (m && not s) ≡ ((m && not l) || q)
nowhere m l s q out none = (λ j. out j && not s) ∙ (λ j. (sym out j && not l) || sym none j)

elsewhere : (m l s q : Bool) → s ≡ l → q ≡ false → (m && not s) ≡ ((m && not l) || q)
elsewhere m l s q same none = ap (λ b. m && not b) same ∙ (or_none (m && not l) ∙ ap (λ b. (m && not l) || b) (sym none))

there : (m l s q : Bool) → l ≡ true → s ≡ false → q ≡ m → (m && not s) ≡ ((m && not l) || q)
there m l s q left gone is = ap (λ b. m && not b) gone ∙ (both m ∙ (λ j. (m && not (sym left j)) || sym is j))
  where
    both : (m : Bool) → (m && true) ≡ ((m && false) || m)
    both true = refl
    both false = refl

without-self : (a x : Bool) → ((a && x) && not x) ≡ false
without-self true true = refl
without-self true false = refl
without-self false x = refl

not-parts : (m l : Bool) → (m && not l) ≡ true → (m ≡ true) × (l ≡ false)
not-parts true true is = absurd (true≢false (sym is))
not-parts true false is = (refl, refl)
not-parts false l is = absurd (true≢false (sym is))

none-of : (m l : Bool) → (m ≡ true → l ≡ true) → (m && not l) ≡ false
none-of true l is = ap not (is refl)
none-of false l is = refl

unless-zero : (m l : Bool) → l ≡ false → (m && not l) ≡ m
unless-zero true l is = ap not is
unless-zero false l is = refl

unless-left : (m l : Bool) → (m ≡ true → l ≡ false) → m ≡ (m && not l)
unless-left true l is = sym (ap not (is refl))
unless-left false l is = refl

-- ---- the bits of a word

module _ (bits first : ℕ) (aligned : first % 64 ≡ 0) where
  -- the indices of bits that are no longer left
  abbrev pub passed_bits : ℕ → ℕ → Bool
  passed_bits left i = in_word bits (first / 64) i && not (has_bit left (i % 64))

  pub bits-first : (i : ℕ) → passed_bits bits i ≡ false
  bits-first i = without-self (eqb (i / 64) (first / 64)) (has_bit bits (i % 64))

  pub bits-last : (left : ℕ) → left ≡ 0 → (i : ℕ) → passed_bits left i ≡ in_word bits (first / 64) i
  bits-last left none i = unless-zero (in_word bits (first / 64) i) (has_bit left (i % 64)) (ap (λ w. has_bit w (i % 64)) none ∙ has_bit-zero (i % 64))

  module _ (left place rest : ℕ) (is : IsRest bits left) (takes : TakesBit left place rest) where
    index-in : ((first + place) / 64 ≡ first / 64) × ((first + place) % 64 ≡ place)
    index-in = let low = takes.within in (omega (arith, low, aligned), omega (arith, low, aligned))

    -- its index is one of the word's,
    pub bits-there : (i : ℕ) → eqb i (first + place) ≡ true → in_word bits (first / 64) i ≡ true
    bits-there i at =
        let here : i ≡ first + place = eqb-true _ _ at in
        (λ j. eqb (here j / 64) (first / 64) && has_bit bits (here j % 64))
        ∙ ((λ j. eqb (index-in.0 j) (first / 64) && has_bit bits (index-in.1 j))
        ∙ (λ j. eq-eqb (first / 64) (first / 64) refl j && is.within place takes.within takes.was j))

    -- those passed are less,
    pub bits-before : Precedes (passed_bits left) (λ i. eqb i (first + place))
    bits-before i k passes at =
        let here : k ≡ first + place = eqb-true _ _ at in
        let parts = not-parts (in_word bits (first / 64) i) (has_bit left (i % 64)) passes in
        let inside = and_parts (eqb (i / 64) (first / 64)) (has_bit bits (i % 64)) parts.0 in
        let word : i / 64 ≡ first / 64 = eqb-true _ _ inside.0 in
        let less = is.later (i % 64) place (omega arith) takes.within inside.1 parts.1 takes.was in
        omega (arith, here, word, less, aligned)

    -- and it is passed next
    pub bits-next : (i : ℕ) → passed_bits rest i ≡ (passed_bits left i || eqb i (first + place))
    bits-next i =
        let m = in_word bits (first / 64) i in
        elim (cases_eq i (first + place)) [
          | inl here ↦
              let at : eqb i (first + place) ≡ true = eq-eqb i (first + place) here in
              let bit : i % 64 ≡ place = ap (λ k. k % 64) here ∙ index-in.1 in
              there m (has_bit left (i % 64)) (has_bit rest (i % 64)) (eqb i (first + place)) (ap (has_bit left) bit ∙ takes.was)
              (ap (has_bit rest) bit ∙ takes.gone) (at ∙ sym (bits-there i at))
          | inr apart ↦
              let off : eqb i (first + place) ≡ false = ne_eqb i (first + place) apart in
              elim (cases_eq (i / 64) (first / 64)) [
                | inl word ↦
                    elsewhere m (has_bit left (i % 64)) (has_bit rest (i % 64)) (eqb i (first + place))
                    (takes.stay (i % 64) (omega arith) (λ e. apart (omega (arith, e, word, aligned)))) off
                | inr out ↦ nowhere m (has_bit left (i % 64)) (has_bit rest (i % 64)) (eqb i (first + place))
                    (ap (λ b. b && has_bit bits (i % 64)) (ne_eqb (i / 64) (first / 64) out)) off
              ]
        ]

    -- up to it there is none that isn't passed then
    pub bits-below : (i k : ℕ) → i < k → eqb k (first + place) ≡ true → in_word bits (first / 64) i ≡ (passed_bits left i || eqb i (first + place))
    bits-below i k less at =
        let here : k ≡ first + place = eqb-true _ _ at in
        unless-left (in_word bits (first / 64) i) (has_bit rest (i % 64)) (λ is_in.
        let word : i / 64 ≡ first / 64 = eqb-true _ _ (and_parts (eqb (i / 64) (first / 64)) (has_bit bits (i % 64)) is_in).0 in
        rest-below left place rest takes (i % 64) (omega (arith, word, less, here, aligned)))
        ∙ bits-next i

-- ---- a word of all ones is 64 in a row

module _ (first : ℕ) (aligned : first % 64 ≡ 0) where
  -- the indices of the word before one
  abbrev pub passed_row : ℕ → ℕ → Bool
  passed_row index i = eqb (i / 64) (first / 64) && ltb i index

  in-row : (i : ℕ) → in_word 18446744073709551615 (first / 64) i ≡ (eqb (i / 64) (first / 64) && true)
  in-row i = ap (λ b. eqb (i / 64) (first / 64) && b) (ones (i % 64) (omega arith))

  pub row-first : (i : ℕ) → passed_row first i ≡ false
  row-first i = elim (cases_eq (i / 64) (first / 64)) [
    | inl word ↦ (λ j. eqb (i / 64) (first / 64) && le-ltb i first (omega (arith, word, aligned)) j) ∙ and_none (eqb (i / 64) (first / 64))
    | inr out ↦ ap (λ b. b && ltb i first) (ne_eqb (i / 64) (first / 64) out)
  ]

  pub row-last : (index : ℕ) → index ≡ first + 64 → (i : ℕ) → passed_row index i ≡ in_word 18446744073709551615 (first / 64) i
  row-last index end i = elim (cases_eq (i / 64) (first / 64)) [
    | inl word ↦ (λ j. eqb (i / 64) (first / 64) && lt-ltb i index (omega (arith, word, aligned, end)) j) ∙ sym (in-row i)
    | inr out ↦ ap (λ b. b && ltb i index) (ne_eqb (i / 64) (first / 64) out) ∙ sym (ap (λ b. b && has_bit 18446744073709551615 (i % 64)) (ne_eqb (i / 64) (first / 64) out))
  ]

  module _ (index : ℕ) (least : first ≤ index) (most : index < first + 64) where
    pub row-there : (i : ℕ) → eqb i index ≡ true → in_word 18446744073709551615 (first / 64) i ≡ true
    row-there i at =
        let here : i ≡ index = eqb-true _ _ at in
        in-row i ∙ ap (λ b. b && true) (eq-eqb (i / 64) (first / 64) (omega (arith, here, least, most, aligned)))

    pub row-before : Precedes (passed_row index) (λ i. eqb i index)
    row-before i k passes at =
        let here : k ≡ index = eqb-true _ _ at in
        elim (cases_lt i index) [
          | inl less ↦ omega (arith, here, less)
          | inr more ↦ absurd (true≢false (sym (and_parts (eqb (i / 64) (first / 64)) (ltb i index) passes).1 ∙ le-ltb i index more))
        ]

    pub row-next : (i : ℕ) → passed_row (index + 1) i ≡ (passed_row index i || eqb i index)
    row-next i = elim (cases_eq i index) [
      | inl here ↦
          (λ j. eq-eqb (i / 64) (first / 64) (omega (arith, here, least, most, aligned)) j && lt-ltb i (index + 1) (omega (arith, here)) j)
          ∙ (λ j. (sym (eq-eqb (i / 64) (first / 64) (omega (arith, here, least, most, aligned))) j && sym (le-ltb i index (omega (arith, here))) j) || sym (eq-eqb i index here) j)
      | inr apart ↦
          elim (cases_lt i index) [
            | inl less ↦
                (λ j. eqb (i / 64) (first / 64) && lt-ltb i (index + 1) (omega (arith, less)) j)
                ∙ (or_none (eqb (i / 64) (first / 64) && true) ∙ (λ j. (eqb (i / 64) (first / 64) && sym (lt-ltb i index less) j) || sym (ne_eqb i index apart) j))
            | inr more ↦
                (λ j. eqb (i / 64) (first / 64) && le-ltb i (index + 1) (omega (arith, more, apart)) j)
                ∙ (or_none (eqb (i / 64) (first / 64) && false) ∙ (λ j. (eqb (i / 64) (first / 64) && sym (le-ltb i index more) j) || sym (ne_eqb i index apart) j))
          ]
    ]

    pub row-below : (i k : ℕ) → i < k → eqb k index ≡ true → in_word 18446744073709551615 (first / 64) i ≡ (passed_row index i || eqb i index)
    row-below i k less at =
        let here : k ≡ index = eqb-true _ _ at in
        in-row i ∙ (ap (λ b. eqb (i / 64) (first / 64) && b) (sym (lt-ltb i (index + 1) (omega (arith, less, here)))) ∙ row-next i)

-- ---- the words under a word of the layer above

module _ (words : ℕ → ℕ → ℕ) (has : ℕ → Bool) (over : StandsOver words) (agree : (i : ℕ) → i < 16777216 → is_marked words 0 i ≡ has i) (top : ℕ) (low : top < 4096) where
  -- the members in words that are no longer left
  abbrev pub passed_words : ℕ → ℕ → Bool
  passed_words left i = in_group has top i && not (has_bit left (i / 64 % 64))

  -- the bit of a member's word is there
  member-word : (i : ℕ) → in_group has top i ≡ true → (i / 4096 ≡ top) × (has i ≡ true) × (has_bit (words 1 top) (i / 64 % 64) ≡ true)
  member-word i is =
      let inside = and_parts (eqb (i / 4096) top) (has i) is in
      let group : i / 4096 ≡ top = eqb-true _ _ inside.0 in
      let marked = over 0 i (agree i (omega (arith, group, low)) ∙ inside.1) in
      let up : i / 64 / 64 ≡ top = omega (arith, group) in
      (group, inside.1, subst (λ w. has_bit (words 1 w) (i / 64 % 64) ≡ true) up marked)

  pub words-first : (i : ℕ) → passed_words (words 1 top) i ≡ false
  words-first i = none-of (in_group has top i) (has_bit (words 1 top) (i / 64 % 64)) (λ is. (member-word i is).2)

  pub words-last : (left : ℕ) → left ≡ 0 → (i : ℕ) → passed_words left i ≡ in_group has top i
  words-last left none i = unless-zero (in_group has top i) (has_bit left (i / 64 % 64)) (ap (λ w. has_bit w (i / 64 % 64)) none ∙ has_bit-zero (i / 64 % 64))

  module _ (left place rest word : ℕ) (is : IsRest (words 1 top) left) (takes : TakesBit left place rest) (at : word ≡ 64 * top + place) where
    -- a bit of the word is that of a member
    bit-is : (i : ℕ) → i / 64 ≡ word → has_bit (words 0 word) (i % 64) ≡ has i
    bit-is i here =
        let within = takes.within in
        subst (λ w. has_bit (words 0 w) (i % 64) ≡ has i) here (agree i (omega (arith, here, at, within, low)))

    pub words-there : (i : ℕ) → in_word (words 0 word) word i ≡ true → in_group has top i ≡ true
    words-there i passes =
        let within = takes.within in
        let inside = and_parts (eqb (i / 64) word) (has_bit (words 0 word) (i % 64)) passes in
        let here : i / 64 ≡ word = eqb-true _ _ inside.0 in
        (λ j. eq-eqb (i / 4096) top (omega (arith, here, at, within)) j && (sym (bit-is i here) ∙ inside.1) j)

    pub words-before : Precedes (passed_words left) (in_word (words 0 word) word)
    words-before i k passes is_there =
        let within = takes.within in
        let here : k / 64 ≡ word = eqb-true _ _ (and_parts (eqb (k / 64) word) (has_bit (words 0 word) (k % 64)) is_there).0 in
        let parts = not-parts (in_group has top i) (has_bit left (i / 64 % 64)) passes in
        let member = member-word i parts.0 in
        let group = member.0 in
        let less = is.later (i / 64 % 64) place (omega arith) within member.2 parts.1 takes.was in
        omega (arith, here, group, less, at, within)

    pub words-next : (i : ℕ) → passed_words rest i ≡ (passed_words left i || in_word (words 0 word) word i)
    words-next i =
        let within = takes.within in
        let m = in_group has top i in
        let q = in_word (words 0 word) word i in
        elim (cases_eq (i / 64) word) [
          | inl here ↦
              let bit : i / 64 % 64 ≡ place = omega (arith, here, at, within) in
              let group : i / 4096 ≡ top = omega (arith, here, at, within) in
              there m (has_bit left (i / 64 % 64)) (has_bit rest (i / 64 % 64)) q (ap (has_bit left) bit ∙ takes.was) (ap (has_bit rest) bit ∙ takes.gone)
              ((λ j. eq-eqb (i / 64) word here j && bit-is i here j) ∙ ap (λ b. b && has i) (sym (eq-eqb (i / 4096) top group)))
          | inr apart ↦
              let off : q ≡ false = ap (λ b. b && has_bit (words 0 word) (i % 64)) (ne_eqb (i / 64) word apart) in
              elim (cases_eq (i / 4096) top) [
                | inl group ↦
                    elsewhere m (has_bit left (i / 64 % 64)) (has_bit rest (i / 64 % 64)) q
                    (takes.stay (i / 64 % 64) (omega arith) (λ e. apart (omega (arith, e, group, at)))) off
                | inr out ↦ nowhere m (has_bit left (i / 64 % 64)) (has_bit rest (i / 64 % 64)) q (ap (λ b. b && has i) (ne_eqb (i / 4096) top out)) off
              ]
        ]

    pub words-below : (i k : ℕ) → i < k → in_word (words 0 word) word k ≡ true → in_group has top i ≡ (passed_words left i || in_word (words 0 word) word i)
    words-below i k less is_there =
        let within = takes.within in
        let here : k / 64 ≡ word = eqb-true _ _ (and_parts (eqb (k / 64) word) (has_bit (words 0 word) (k % 64)) is_there).0 in
        unless-left (in_group has top i) (has_bit rest (i / 64 % 64)) (λ is_in.
        let group : i / 4096 ≡ top = eqb-true _ _ (and_parts (eqb (i / 4096) top) (has i) is_in).0 in
        rest-below left place rest takes (i / 64 % 64) (omega (arith, group, less, here, at)))
        ∙ words-next i

-- ---- groups, one after the other

module _ (has : ℕ → Bool) where
  -- the members in the groups before one
  abbrev pub passed_groups : ℕ → ℕ → Bool
  passed_groups top i = ltb i (4096 * top) && has i

  pub groups-first : (i : ℕ) → passed_groups 0 i ≡ false
  groups-first i = ap (λ b. b && has i) (le-ltb i 0 (omega arith))

  module _ (top : ℕ) where
    pub groups-before : Precedes (passed_groups top) (in_group has top)
    groups-before i k passes is_there =
        let here : k / 4096 ≡ top = eqb-true _ _ (and_parts (eqb (k / 4096) top) (has k) is_there).0 in
        elim (cases_lt i (4096 * top)) [
          | inl less ↦ omega (arith, here, less)
          | inr more ↦ absurd (true≢false (sym (and_parts (ltb i (4096 * top)) (has i) passes).0 ∙ le-ltb i (4096 * top) more))
        ]

    pub groups-next : (i : ℕ) → passed_groups (top + 1) i ≡ (passed_groups top i || in_group has top i)
    groups-next i = elim (cases_lt i (4096 * top)) [
      | inl less ↦
          (λ j. lt-ltb i (4096 * (top + 1)) (omega (arith, less)) j && has i)
          ∙ (or_none (has i) ∙ (λ j. (sym (lt-ltb i (4096 * top) less) j && has i) || (sym (ne_eqb (i / 4096) top (λ e. omega (arith, e, less))) j && has i)))
      | inr more ↦ elim (cases_eq (i / 4096) top) [
        | inl here ↦
            (λ j. lt-ltb i (4096 * (top + 1)) (omega (arith, here)) j && has i)
            ∙ (λ j. (sym (le-ltb i (4096 * top) more) j && has i) || (sym (eq-eqb (i / 4096) top here) j && has i))
        | inr apart ↦
            (λ j. le-ltb i (4096 * (top + 1)) (omega (arith, apart, more)) j && has i)
            ∙ (λ j. (sym (le-ltb i (4096 * top) more) j && has i) || (sym (ne_eqb (i / 4096) top apart) j && has i))
      ]
    ]

    module _ (tops : ℕ) (low : top < tops) where
      pub groups-there : (i : ℕ) → in_group has top i ≡ true → passed_groups tops i ≡ true
      groups-there i is_there =
          let parts = and_parts (eqb (i / 4096) top) (has i) is_there in
          let here : i / 4096 ≡ top = eqb-true _ _ parts.0 in
          (λ j. lt-ltb i (4096 * tops) (omega (arith, here, low)) j && parts.1 j)

      pub groups-below : (i k : ℕ) → i < k → in_group has top k ≡ true → passed_groups tops i ≡ (passed_groups top i || in_group has top i)
      groups-below i k less is_there =
          let here : k / 4096 ≡ top = eqb-true _ _ (and_parts (eqb (k / 4096) top) (has k) is_there).0 in
          (λ j. lt-ltb i (4096 * tops) (omega (arith, here, less, low)) j && has i)
          ∙ ((λ j. sym (lt-ltb i (4096 * (top + 1)) (omega (arith, here, less))) j && has i)
          ∙ groups-next i)
