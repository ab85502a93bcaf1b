use Rattle.std.proofs.Common.{ap, sym, ◌∙◌, subst, Option}
use Rattle.shred_stages.specs.declared.stop.Stop.{Stop}
use Rattle.shred_stages.specs.Views.{error_of}
use Rattle.shred.specs.Trees.{ParRuns}
use Rattle.shred.proofs.HalfLemmas.{head-slots, tail-slots, head-seat, tail-seat, both-run, lends-in, returns-in, slots-in, runs-in}
use Rattle.shred.proofs.trees.halves.run_apart.Goals as goal

pub give_back-requires : goal.give_back-requires
give_back-requires g c = record {
  slots = slots-in _ _ (ap (λ list. list.items) (c.run_both-first.ensures.head_room_writes ∙ c.lend.ensures.writes) ∙ c.requires.head_room.same_writes)
      (head-slots g.H.RunWithPool.meets g.T.RunWithPool.meets g.H.RunWithPool.read_list g.H.RunWithPool.write_list g.T.RunWithPool.read_list g.T.RunWithPool.write_list c.args.head.now c.args.tail.now c.requires.apart
      (g.W.Holder.slots c.args.world.now) (g.W.Holder.slots c.lend.new.world) (g.W.Holder.slots c.lend-2.new.world)
      c.args.rooms.now.head.seat c.lend.new.room.seat c.run_both-first.new.head_room.seat c.args.rooms.now.tail.seat c.lend-2.new.room.seat c.run_both-first.new.tail_room.seat
      c.requires.head_room.seat c.requires.tail_room.seat
      (lends-in c.requires.head_room.same_writes c.lend.ensures.lends) (lends-in c.requires.tail_room.same_writes c.lend-2.ensures.lends)
      (error_of c.run_both-first.result.0) (error_of c.run_both-first.result.1) c.run_both-first.new.head c.run_both-first.new.tail
      (runs-in (g.W.Holder.slots c.lend-2.new.world) c.lend.new.room.seat (ap (λ list. list.items) c.lend.ensures.reads ∙ c.requires.head_room.same_reads) (ap (λ list. list.items) c.lend.ensures.writes ∙ c.requires.head_room.same_writes) c.run_both-first.ensures.head_runs)
      (runs-in (g.W.Holder.slots c.lend-2.new.world) c.lend-2.new.room.seat (ap (λ list. list.items) c.lend-2.ensures.reads ∙ c.requires.tail_room.same_reads) (ap (λ list. list.items) c.lend-2.ensures.writes ∙ c.requires.tail_room.same_writes) c.run_both-first.ensures.tail_runs));
}

pub give_back-requires-2 : goal.give_back-requires-2
give_back-requires-2 g c = record {
  slots = slots-in _ _ (ap (λ list. list.items) (c.run_both-first.ensures.tail_room_writes ∙ c.lend-2.ensures.writes) ∙ c.requires.tail_room.same_writes)
      (tail-slots g.H.RunWithPool.meets g.T.RunWithPool.meets g.H.RunWithPool.read_list g.H.RunWithPool.write_list g.T.RunWithPool.read_list g.T.RunWithPool.write_list c.args.head.now c.args.tail.now c.requires.apart
      (g.W.Holder.slots c.args.world.now) (g.W.Holder.slots c.lend.new.world) (g.W.Holder.slots c.lend-2.new.world)
      c.args.rooms.now.head.seat c.lend.new.room.seat c.run_both-first.new.head_room.seat c.args.rooms.now.tail.seat c.lend-2.new.room.seat c.run_both-first.new.tail_room.seat
      c.requires.head_room.seat c.requires.tail_room.seat
      (lends-in c.requires.head_room.same_writes c.lend.ensures.lends) (lends-in c.requires.tail_room.same_writes c.lend-2.ensures.lends)
      (error_of c.run_both-first.result.0) (error_of c.run_both-first.result.1) c.run_both-first.new.head c.run_both-first.new.tail
      (runs-in (g.W.Holder.slots c.lend-2.new.world) c.lend.new.room.seat (ap (λ list. list.items) c.lend.ensures.reads ∙ c.requires.head_room.same_reads) (ap (λ list. list.items) c.lend.ensures.writes ∙ c.requires.head_room.same_writes) c.run_both-first.ensures.head_runs)
      (runs-in (g.W.Holder.slots c.lend-2.new.world) c.lend-2.new.room.seat (ap (λ list. list.items) c.lend-2.ensures.reads ∙ c.requires.tail_room.same_reads) (ap (λ list. list.items) c.lend-2.ensures.writes ∙ c.requires.tail_room.same_writes) c.run_both-first.ensures.tail_runs)
      (g.W.Holder.slots c.give_back.new.world) c.give_back.new.room.seat (returns-in (ap (λ list. list.items) (c.run_both-first.ensures.head_room_writes ∙ c.lend.ensures.writes) ∙ c.requires.head_room.same_writes) c.give_back.ensures.returns));
}

pub returns-clause-meets : goal.returns-clause-meets
returns-clause-meets g c =
    let P : Option Stop → Type 0 = λ refused. ParRuns g.H.RunWithPool.meets g.T.RunWithPool.meets (record { head = c.args.head.now; tail = c.args.tail.now }) (g.W.Holder.slots c.args.world.now) refused
    (record { head = c.run_both-first.new.head; tail = c.run_both-first.new.tail }) (g.W.Holder.slots c.give_back-2.new.world) in
    subst P (sym c.first_of.ensures) (both-run g.H.RunWithPool.meets g.T.RunWithPool.meets g.H.RunWithPool.read_list g.H.RunWithPool.write_list g.T.RunWithPool.read_list g.T.RunWithPool.write_list c.args.head.now c.args.tail.now c.requires.apart
    (g.W.Holder.slots c.args.world.now) (g.W.Holder.slots c.lend.new.world) (g.W.Holder.slots c.lend-2.new.world)
    c.args.rooms.now.head.seat c.lend.new.room.seat c.run_both-first.new.head_room.seat c.args.rooms.now.tail.seat c.lend-2.new.room.seat c.run_both-first.new.tail_room.seat
    c.requires.head_room.seat c.requires.tail_room.seat
    (lends-in c.requires.head_room.same_writes c.lend.ensures.lends) (lends-in c.requires.tail_room.same_writes c.lend-2.ensures.lends)
    (error_of c.run_both-first.result.0) (error_of c.run_both-first.result.1) c.run_both-first.new.head c.run_both-first.new.tail
    (runs-in (g.W.Holder.slots c.lend-2.new.world) c.lend.new.room.seat (ap (λ list. list.items) c.lend.ensures.reads ∙ c.requires.head_room.same_reads) (ap (λ list. list.items) c.lend.ensures.writes ∙ c.requires.head_room.same_writes) c.run_both-first.ensures.head_runs)
    (runs-in (g.W.Holder.slots c.lend-2.new.world) c.lend-2.new.room.seat (ap (λ list. list.items) c.lend-2.ensures.reads ∙ c.requires.tail_room.same_reads) (ap (λ list. list.items) c.lend-2.ensures.writes ∙ c.requires.tail_room.same_writes) c.run_both-first.ensures.tail_runs)
    (g.W.Holder.slots c.give_back.new.world) c.give_back.new.room.seat (returns-in (ap (λ list. list.items) (c.run_both-first.ensures.head_room_writes ∙ c.lend.ensures.writes) ∙ c.requires.head_room.same_writes) c.give_back.ensures.returns)
    (g.W.Holder.slots c.give_back-2.new.world) c.give_back-2.new.room.seat (returns-in (ap (λ list. list.items) (c.run_both-first.ensures.tail_room_writes ∙ c.lend-2.ensures.writes) ∙ c.requires.tail_room.same_writes) c.give_back-2.ensures.returns)
    g.met.H.RunWithPool.stays_within (g.met.T.RunWithPool g.world.𝓛 g.world.𝓜 g.world.𝓡 (λ _ p. p, λ p. p, λ p. p, λ p. p)).stays_within g.met.H.RunWithPool.sees_what_it_declares (g.met.T.RunWithPool g.world.𝓛 g.world.𝓜 g.world.𝓡 (λ _ p. p, λ p. p, λ p. p, λ p. p)).sees_what_it_declares c.requires.head_whole c.requires.tail_whole)

pub returns-clause-head_room : goal.returns-clause-head_room
returns-clause-head_room g c =
    let seat = head-seat g.H.RunWithPool.meets g.T.RunWithPool.meets g.H.RunWithPool.read_list g.H.RunWithPool.write_list g.T.RunWithPool.read_list g.T.RunWithPool.write_list c.args.head.now c.args.tail.now c.requires.apart
    (g.W.Holder.slots c.args.world.now) (g.W.Holder.slots c.lend.new.world) (g.W.Holder.slots c.lend-2.new.world)
    c.args.rooms.now.head.seat c.lend.new.room.seat c.run_both-first.new.head_room.seat c.args.rooms.now.tail.seat c.lend-2.new.room.seat c.run_both-first.new.tail_room.seat
    c.requires.head_room.seat c.requires.tail_room.seat
    (lends-in c.requires.head_room.same_writes c.lend.ensures.lends) (lends-in c.requires.tail_room.same_writes c.lend-2.ensures.lends)
    (error_of c.run_both-first.result.0) (error_of c.run_both-first.result.1) c.run_both-first.new.head c.run_both-first.new.tail
    (runs-in (g.W.Holder.slots c.lend-2.new.world) c.lend.new.room.seat (ap (λ list. list.items) c.lend.ensures.reads ∙ c.requires.head_room.same_reads) (ap (λ list. list.items) c.lend.ensures.writes ∙ c.requires.head_room.same_writes) c.run_both-first.ensures.head_runs)
    (runs-in (g.W.Holder.slots c.lend-2.new.world) c.lend-2.new.room.seat (ap (λ list. list.items) c.lend-2.ensures.reads ∙ c.requires.tail_room.same_reads) (ap (λ list. list.items) c.lend-2.ensures.writes ∙ c.requires.tail_room.same_writes) c.run_both-first.ensures.tail_runs)
    (g.W.Holder.slots c.give_back.new.world) c.give_back.new.room.seat (returns-in (ap (λ list. list.items) (c.run_both-first.ensures.head_room_writes ∙ c.lend.ensures.writes) ∙ c.requires.head_room.same_writes) c.give_back.ensures.returns)
    (g.W.Holder.slots c.give_back-2.new.world) c.give_back-2.new.room.seat (returns-in (ap (λ list. list.items) (c.run_both-first.ensures.tail_room_writes ∙ c.lend-2.ensures.writes) ∙ c.requires.tail_room.same_writes) c.give_back-2.ensures.returns) in
    record {
      same_reads = ap (λ list. list.items) (c.give_back.ensures.reads ∙ c.run_both-first.ensures.head_room_reads ∙ c.lend.ensures.reads) ∙ c.requires.head_room.same_reads;
      same_writes = ap (λ list. list.items) (c.give_back.ensures.writes ∙ c.run_both-first.ensures.head_room_writes ∙ c.lend.ensures.writes) ∙ c.requires.head_room.same_writes;
      seat = λ id. seat id ∙ c.requires.head_room.seat id;
    }

pub returns-clause-tail_room : goal.returns-clause-tail_room
returns-clause-tail_room g c =
    let seat = tail-seat g.H.RunWithPool.meets g.T.RunWithPool.meets g.H.RunWithPool.read_list g.H.RunWithPool.write_list g.T.RunWithPool.read_list g.T.RunWithPool.write_list c.args.head.now c.args.tail.now c.requires.apart
    (g.W.Holder.slots c.args.world.now) (g.W.Holder.slots c.lend.new.world) (g.W.Holder.slots c.lend-2.new.world)
    c.args.rooms.now.head.seat c.lend.new.room.seat c.run_both-first.new.head_room.seat c.args.rooms.now.tail.seat c.lend-2.new.room.seat c.run_both-first.new.tail_room.seat
    c.requires.head_room.seat c.requires.tail_room.seat
    (lends-in c.requires.head_room.same_writes c.lend.ensures.lends) (lends-in c.requires.tail_room.same_writes c.lend-2.ensures.lends)
    (error_of c.run_both-first.result.0) (error_of c.run_both-first.result.1) c.run_both-first.new.head c.run_both-first.new.tail
    (runs-in (g.W.Holder.slots c.lend-2.new.world) c.lend.new.room.seat (ap (λ list. list.items) c.lend.ensures.reads ∙ c.requires.head_room.same_reads) (ap (λ list. list.items) c.lend.ensures.writes ∙ c.requires.head_room.same_writes) c.run_both-first.ensures.head_runs)
    (runs-in (g.W.Holder.slots c.lend-2.new.world) c.lend-2.new.room.seat (ap (λ list. list.items) c.lend-2.ensures.reads ∙ c.requires.tail_room.same_reads) (ap (λ list. list.items) c.lend-2.ensures.writes ∙ c.requires.tail_room.same_writes) c.run_both-first.ensures.tail_runs)
    (g.W.Holder.slots c.give_back.new.world) c.give_back.new.room.seat (returns-in (ap (λ list. list.items) (c.run_both-first.ensures.head_room_writes ∙ c.lend.ensures.writes) ∙ c.requires.head_room.same_writes) c.give_back.ensures.returns)
    (g.W.Holder.slots c.give_back-2.new.world) c.give_back-2.new.room.seat (returns-in (ap (λ list. list.items) (c.run_both-first.ensures.tail_room_writes ∙ c.lend-2.ensures.writes) ∙ c.requires.tail_room.same_writes) c.give_back-2.ensures.returns) in
    record {
      same_reads = ap (λ list. list.items) (c.give_back-2.ensures.reads ∙ c.run_both-first.ensures.tail_room_reads ∙ c.lend-2.ensures.reads) ∙ c.requires.tail_room.same_reads;
      same_writes = ap (λ list. list.items) (c.give_back-2.ensures.writes ∙ c.run_both-first.ensures.tail_room_writes ∙ c.lend-2.ensures.writes) ∙ c.requires.tail_room.same_writes;
      seat = λ id. seat id ∙ c.requires.tail_room.seat id;
    }
