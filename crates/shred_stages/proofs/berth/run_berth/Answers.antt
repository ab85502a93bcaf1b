use Rattle.std.proofs.Common.{◌≡◌, ℕ, Option, length, map, ap, sym, subst, ◌∙◌, arith, vec_capacity}
use Rattle.shred_world.specs.declared.resource_id.ResourceId.{ResourceId}
use Rattle.shred_world.specs.Worlds.{Slots}
use Rattle.shred_world.specs.Bundles.{holding_of}
use Rattle.shred_crew.specs.Deals.{Sharing}
use Rattle.shred_plan.specs.Plan.{Stage, time_of}
use Rattle.shred_crew.specs.Cuts.{cut}
use Rattle.shred_stages.specs.declared.stop.Stop.{Stop}
use Rattle.shred_stages.specs.Runs.{StageRuns}
use Rattle.shred_stages.specs.Seats.{StageIsSeated, state_of, refusal_of}
use Rattle.shred_stages.specs.Free.{AreFree}
use Rattle.shred_stages.specs.Packs.{PackRuns}
use Rattle.shred_stages.specs.Lending.{IsPack}
use Rattle.shred_stages.specs.Away.{systems_in, ComeHome, AreHome}
use Rattle.shred_stages.proofs.LoadLemmas.{ran-home, ran-stage, ran-kits, zip-length}
use Rattle.shred_stages.proofs.berth.run_berth.Goals as goal

pub work-back-requires : goal.work-back-requires
work-back-requires g c =
    let all = systems_in c.args.slots.now.items in
    let stage = c.berth.inside.kits.items in
    let packs = c.lend_all.new.packs.items in
    ap (λ (sharing : Sharing). sharing.count) c.berth.invariant.2 ∙ zip-length (IsPack (map (λ one. one.system) all)) stage packs c.lend_all.ensures.loaded.packs

pub give_back_all-outcome-requires-clause-home : goal.give_back_all-outcome-requires-clause-home
give_back_all-outcome-requires-clause-home g c =
    let all = systems_in c.args.slots.now.items in
    let stage = c.berth.inside.kits.items in
    let packs = c.lend_all.new.packs.items in
    let packs2 = c.work-back.new.loads.items in
    let free : AreFree stage = let P : Stage ResourceId → Type 0 = λ list. AreFree list in subst P (sym c.berth.view_is) c.requires.free in
    let loaded = c.lend_all.ensures.loaded in
    let home = ran-home g.S.System.meets stage all packs packs2 c.lend_all.new.slots.items c.args.world c.lend_all.new.world free loaded c.work-back.ensures.works in
    let P : Slots g.row.V.Denot → Type 0 = λ w. ComeHome packs2 (holding_of w) in
    subst P (sym c.work-back.ensures.shared) home

pub give_back_all-outcome-requires-clause-room : goal.give_back_all-outcome-requires-clause-room
give_back_all-outcome-requires-clause-room g c =
    let all = systems_in c.args.slots.now.items in
    let stage = c.berth.inside.kits.items in
    let packs = c.lend_all.new.packs.items in
    let packs2 = c.work-back.new.loads.items in
    let one : length stage ≡ length packs = zip-length (IsPack (map (λ one. one.system) all)) stage packs c.lend_all.ensures.loaded.packs in
    let two : length packs ≡ length packs2 = zip-length (PackRuns g.S.System.meets c.lend_all.new.world) packs packs2 c.work-back.ensures.works in
    let room : vec_capacity c.lend_all.new.kits ≡ vec_capacity c.berth.inside.kits = c.lend_all.ensures.kits_room in
    let whole = c.berth.inside.kits.ok in
    omega (arith, one, two, room, whole.0, whole.1)

pub invariant_of-berth : goal.invariant_of-berth
invariant_of-berth g c =
    let all = systems_in c.args.slots.now.items in
    let stage = c.berth.inside.kits.items in
    let packs = c.lend_all.new.packs.items in
    let packs2 = c.work-back.new.loads.items in
    let free : AreFree stage = let P : Stage ResourceId → Type 0 = λ list. AreFree list in subst P (sym c.berth.view_is) c.requires.free in
    let loaded = c.lend_all.ensures.loaded in
    let kits : c.give_back_all-outcome.new.kits.items ≡ stage = c.give_back_all-outcome.ensures.kits ∙ ran-kits g.S.System.meets stage all packs packs2 c.lend_all.new.slots.items c.args.world c.lend_all.new.world free loaded c.work-back.ensures.works in
    let room : vec_capacity c.give_back_all-outcome.new.packs ≡ vec_capacity c.berth.inside.packs = c.give_back_all-outcome.ensures.packs_room ∙ c.work-back.ensures.capacity ∙ c.lend_all.ensures.packs_room in
    let long : length c.give_back_all-outcome.new.kits.items ≡ length stage = ap length kits in
    let shares : Stage ResourceId → Sharing = λ list. record { count = length list; shares = cut (map time_of list) c.berth.inside.workers } in
    let was = c.berth.invariant in
    (c.give_back_all-outcome.ensures.packs, omega (arith, room, long, was.1), c.work-back.ensures.room ∙ was.2 ∙ ap shares (sym kits))

pub returns-clause-runs : goal.returns-clause-runs
returns-clause-runs g c =
    let all = systems_in c.args.slots.now.items in
    let stage = c.berth.inside.kits.items in
    let packs = c.lend_all.new.packs.items in
    let packs2 = c.work-back.new.loads.items in
    let free : AreFree stage = let P : Stage ResourceId → Type 0 = λ list. AreFree list in subst P (sym c.berth.view_is) c.requires.free in
    let loaded = c.lend_all.ensures.loaded in
    let seated : StageIsSeated stage all = let P : Stage ResourceId → Type 0 = λ list. StageIsSeated list all in subst P (sym c.berth.view_is) c.requires.seated in
    let home : AreHome packs2 (holding_of c.lend_all.new.world) (holding_of c.give_back_all-outcome.new.world) =
    let P : Slots g.row.V.Denot → Type 0 = λ w. AreHome packs2 (holding_of w) (holding_of c.give_back_all-outcome.new.world) in subst P c.work-back.ensures.shared c.give_back_all-outcome.ensures.home in
    let ran = ran-stage g.S.System.meets stage all packs packs2 c.lend_all.new.slots.items c.args.world c.lend_all.new.world free loaded c.work-back.ensures.works
    c.give_back_all-outcome.new.slots.items c.give_back_all-outcome.new.world seated home c.give_back_all-outcome.ensures.slots in
    let P : Option (ℕ × Stop) → Type 0 = λ refused. StageRuns g.S.System.meets stage (state_of all (holding_of c.args.world)) refused (state_of (systems_in c.give_back_all-outcome.new.slots.items) (holding_of c.give_back_all-outcome.new.world)) in
    let Q : Stage ResourceId → Type 0 = λ list. StageRuns g.S.System.meets list (state_of all (holding_of c.args.world)) (refusal_of c.give_back_all-outcome.result) (state_of (systems_in c.give_back_all-outcome.new.slots.items) (holding_of c.give_back_all-outcome.new.world)) in
    subst Q c.berth.view_is (subst P (sym c.give_back_all-outcome.ensures.told) ran.0)

pub returns-clause-there : goal.returns-clause-there
returns-clause-there g c =
    let all = systems_in c.args.slots.now.items in
    let stage = c.berth.inside.kits.items in
    let packs = c.lend_all.new.packs.items in
    let packs2 = c.work-back.new.loads.items in
    let free : AreFree stage = let P : Stage ResourceId → Type 0 = λ list. AreFree list in subst P (sym c.berth.view_is) c.requires.free in
    let loaded = c.lend_all.ensures.loaded in
    let seated : StageIsSeated stage all = let P : Stage ResourceId → Type 0 = λ list. StageIsSeated list all in subst P (sym c.berth.view_is) c.requires.seated in
    let home : AreHome packs2 (holding_of c.lend_all.new.world) (holding_of c.give_back_all-outcome.new.world) =
    let P : Slots g.row.V.Denot → Type 0 = λ w. AreHome packs2 (holding_of w) (holding_of c.give_back_all-outcome.new.world) in subst P c.work-back.ensures.shared c.give_back_all-outcome.ensures.home in
    let ran = ran-stage g.S.System.meets stage all packs packs2 c.lend_all.new.slots.items c.args.world c.lend_all.new.world free loaded c.work-back.ensures.works
    c.give_back_all-outcome.new.slots.items c.give_back_all-outcome.new.world seated home c.give_back_all-outcome.ensures.slots in
    ran.1

pub returns-clause-seats : goal.returns-clause-seats
returns-clause-seats g c =
    let all = systems_in c.args.slots.now.items in
    let stage = c.berth.inside.kits.items in
    let packs = c.lend_all.new.packs.items in
    let packs2 = c.work-back.new.loads.items in
    let free : AreFree stage = let P : Stage ResourceId → Type 0 = λ list. AreFree list in subst P (sym c.berth.view_is) c.requires.free in
    let loaded = c.lend_all.ensures.loaded in
    let seated : StageIsSeated stage all = let P : Stage ResourceId → Type 0 = λ list. StageIsSeated list all in subst P (sym c.berth.view_is) c.requires.seated in
    let home : AreHome packs2 (holding_of c.lend_all.new.world) (holding_of c.give_back_all-outcome.new.world) =
    let P : Slots g.row.V.Denot → Type 0 = λ w. AreHome packs2 (holding_of w) (holding_of c.give_back_all-outcome.new.world) in subst P c.work-back.ensures.shared c.give_back_all-outcome.ensures.home in
    let ran = ran-stage g.S.System.meets stage all packs packs2 c.lend_all.new.slots.items c.args.world c.lend_all.new.world free loaded c.work-back.ensures.works
    c.give_back_all-outcome.new.slots.items c.give_back_all-outcome.new.world seated home c.give_back_all-outcome.ensures.slots in
    ran.2

pub returns-clause-count : goal.returns-clause-count
returns-clause-count g c =
    let all = systems_in c.args.slots.now.items in
    let stage = c.berth.inside.kits.items in
    let packs = c.lend_all.new.packs.items in
    let packs2 = c.work-back.new.loads.items in
    let free : AreFree stage = let P : Stage ResourceId → Type 0 = λ list. AreFree list in subst P (sym c.berth.view_is) c.requires.free in
    let loaded = c.lend_all.ensures.loaded in
    let seated : StageIsSeated stage all = let P : Stage ResourceId → Type 0 = λ list. StageIsSeated list all in subst P (sym c.berth.view_is) c.requires.seated in
    let home : AreHome packs2 (holding_of c.lend_all.new.world) (holding_of c.give_back_all-outcome.new.world) =
    let P : Slots g.row.V.Denot → Type 0 = λ w. AreHome packs2 (holding_of w) (holding_of c.give_back_all-outcome.new.world) in subst P c.work-back.ensures.shared c.give_back_all-outcome.ensures.home in
    let ran = ran-stage g.S.System.meets stage all packs packs2 c.lend_all.new.slots.items c.args.world c.lend_all.new.world free loaded c.work-back.ensures.works
    c.give_back_all-outcome.new.slots.items c.give_back_all-outcome.new.world seated home c.give_back_all-outcome.ensures.slots in
    ran.3

pub returns-clause-berth : goal.returns-clause-berth
returns-clause-berth g c =
    let all = systems_in c.args.slots.now.items in
    let stage = c.berth.inside.kits.items in
    let packs = c.lend_all.new.packs.items in
    let packs2 = c.work-back.new.loads.items in
    let free : AreFree stage = let P : Stage ResourceId → Type 0 = λ list. AreFree list in subst P (sym c.berth.view_is) c.requires.free in
    let loaded = c.lend_all.ensures.loaded in
    c.give_back_all-outcome.ensures.kits ∙ ran-kits g.S.System.meets stage all packs packs2 c.lend_all.new.slots.items c.args.world c.lend_all.new.world free loaded c.work-back.ensures.works ∙ c.berth.view_is
