-- What contracts see of the dispatcher of a controller.
use Rattle.shred.specs.declared.multi.MultiDispatcher.{MultiDispatcher}

-- the controller that plans how often its stages run
abbrev pub controller_of : {C : Type 0} → MultiDispatcher C → C
controller_of multi = multi.controller
