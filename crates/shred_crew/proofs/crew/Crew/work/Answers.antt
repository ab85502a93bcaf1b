use Rattle.std.proofs.Common.{◌≡◌, ◌≤◌, ℕ, length, map, Some, ap, sym, subst, ◌∙◌, rules, arith, vec_capacity}
use Rattle.std.specs.List.{concat, AllZip}
use Rattle.shred_crew.specs.Deals.{Sharing, lists, vacated, standing, returned, loads_in, all_of, IsWorkedOn}
use Rattle.shred_crew.specs.Cuts.{IsShared}
use Rattle.shred_crew.proofs.DealLemmas.{worked, slots-back, only-worked, keep-room, still-roomy}
use Rattle.shred_crew.proofs.ShareLemmas.{share-has}
use Rattle.shred_crew.proofs.crew.Crew.work.Goals as goal

pub empty_slots-requires-clause-room : goal.empty_slots-requires-clause-room
empty_slots-requires-clause-room g c =
    let loads = c.args.loads.now in
    let numbers = concat (lists c.room.inside.shares.items) in
    let rows = all_of c.work_dealt-shared.new.rows.items in
    let left : c.deal_list.new.slots.items ≡ vacated numbers (map Some loads.items) = search rules in
    let long : length c.gather_list.new.slots.items ≡ length loads.items = ap length (c.gather_list.ensures.slots ∙ ap (returned rows) left) ∙ slots-back loads.items numbers rows in
    let room : vec_capacity c.fill_slots.new.loads ≡ vec_capacity loads = c.fill_slots.ensures.loads_room in
    let whole = loads.ok in
    omega (arith, long, room, whole.0, whole.1)

pub invariant_of-room : goal.invariant_of-room
invariant_of-room g c =
    let was = c.room.invariant in
    let does = IsWorkedOn (g.T.Load.does c.args.shared) in
    let room : vec_capacity c.empty_slots.new.slots ≡ vec_capacity c.room.inside.slots =
    c.empty_slots.ensures.slots_room ∙ c.gather_list.ensures.slots_room ∙ c.deal_list.ensures.slots_room ∙ c.fill_slots.ensures.slots_room in (
      was.0,
      still-roomy c.room.inside.shares.items c.room.inside.rows.items c.deal_list.new.rows.items c.work_dealt-shared.new.rows.items c.gather_list.new.rows.items was.1 c.deal_list.ensures.rows_room
          (keep-room does c.deal_list.new.rows.items c.work_dealt-shared.new.rows.items c.work_dealt-shared.ensures.works) c.gather_list.ensures.rows_room c.gather_list.ensures.rows,
      c.empty_slots.ensures.slots,
      subst (λ (n : ℕ). c.room.inside.count ≤ n) (sym room) was.3,
    )

pub returns-clause-works : goal.returns-clause-works
returns-clause-works g c =
    let does = g.T.Load.does c.args.shared in
    let loads = c.args.loads.now.items in
    let shares = lists c.room.inside.shares.items in
    let numbers = concat shares in
    let rows = c.deal_list.new.rows.items in
    let after = c.work_dealt-shared.new.rows.items in
    let count : c.room.inside.count ≡ length loads = ap (λ (sharing : Sharing). sharing.count) c.room.view_is ∙ c.requires in
    let left : c.deal_list.new.slots.items ≡ vacated numbers (map Some loads) = search rules in
    let dealt : all_of rows ≡ standing numbers (map Some loads) = search rules in
    let back : c.empty_slots.new.loads.items ≡ loads_in (returned (all_of after) (vacated numbers (map Some loads))) =
    c.empty_slots.ensures.loads ∙ ap loads_in (c.gather_list.ensures.slots ∙ ap (returned (all_of after)) left) in
    subst (AllZip does loads) (sym back)
    (worked does numbers loads rows after (share-has (length loads) shares (subst (λ (n : ℕ). IsShared n shares) count c.room.invariant.0)) dealt (only-worked (IsWorkedOn does) rows after c.work_dealt-shared.ensures.works))
