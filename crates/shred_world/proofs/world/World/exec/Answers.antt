use Rattle.std.proofs.Common.{refl, subst}
use Rattle.shred_world.proofs.world.World.exec.Goals as goal

pub returns-in-Ok-clause-ok : goal.returns-in-Ok-clause-ok
returns-in-Ok-clause-ok g c = (
  c.setup.new.self,
  c.in-Ok.bundle,
  _,
  _,
  subst (λ accepted. g.D.SystemData.sets_up accepted c.args.self.now c.setup.new.self) c.if-is_err.ensures.negation c.setup.ensures,
  c.in-Ok.ensures.fits,
  c.in-Ok.ensures.ok,
  c.use_bundle.ensures,
  refl,
)

pub returns-in-Err-clause-err : goal.returns-in-Err-clause-err
returns-in-Err-clause-err g c = (
  c.setup.new.self,
  subst (λ accepted. g.D.SystemData.sets_up accepted c.args.self.now c.setup.new.self) c.if-is_err.ensures.negation c.setup.ensures,
  c.in-Err.ensures.missing,
  c.in-Err.ensures.err,
)

pub use_bundle-requires : goal.use_bundle-requires
use_bundle-requires g c = c.requires.callable c.in-Ok.bundle _ c.in-Ok.ensures.can
