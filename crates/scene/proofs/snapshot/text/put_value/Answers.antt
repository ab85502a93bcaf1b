use Rattle.std.proofs.Common.{Some, SFits, w64, ap, sym, subst, ◌∙◌, arith, rules}
use Rattle.std.proofs.Math.Facts.{to_z-of_z}
use Rattle.serde_json.specs.Data.{number, negative}
use Rattle.serde_json.specs.View.{view}
use Rattle.scene.specs.Printing.{Adds, AddsJson, tokens_of}
use Rattle.scene.proofs.PrintLemmas.{on-wrote, whole-added, negative-added, is-whole, is-under, is-negative}
use Rattle.scene.proofs.snapshot.text.put_value.Goals as goal

pub returns-in-Some : goal.returns-in-Some
returns-in-Some c =
    let is = is-whole _ c.in-Some.number (sym c.as_u64.ensures ∙ c.in-Some.is) in
    on-wrote c.u64.result c.args.out.now c.u64.new.self _ _ c.u64.ensures (λ added. subst (λ json. AddsJson json c.args.out.now c.u64.new.self) (sym is) (whole-added c.in-Some.number c.args.out.now c.u64.new.self (omega arith) added))

pub returns-in-Some-as_i64 : goal.returns-in-Some-as_i64
returns-in-Some-as_i64 c =
    let fits : SFits w64 c.in-Some-as_i64.number = search rules in
    let under = is-under c.in-Some-as_i64.number fits c.if-number-lt0.true in
    let is = is-negative (view c.args.value.now) under.0 (sym c.as_i64.ensures ∙ c.in-Some-as_i64.is ∙ ap Some under.1) in
    on-wrote c.i64.result c.args.out.now c.i64.new.self _ _ c.i64.ensures
    (λ added. subst (λ json. AddsJson json c.args.out.now c.i64.new.self) (sym is)
    (negative-added under.0 c.args.out.now c.i64.new.self under.2 (subst (λ z. Adds (tokens_of (number (negative z))) c.args.out.now c.i64.new.self) (to_z-of_z fits ∙ under.1) added)))
