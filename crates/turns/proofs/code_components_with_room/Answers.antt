-- `turns::code_components_with_room` meets its contract: a fault of the first two groups is the call's refusal, and the rest is
-- coded.
use Rattle.price.specs.Costs.{costs_of}
use Rattle.turns.proofs.Passed.{log2_tested}
use Rattle.turns.proofs.Called.{settings_handed, buffer_handed}
use Rattle.turns.proofs.code_components_with_room.Goals as goal

pub returns-in_err-test_settings : goal.returns-in_err-test_settings
returns-in_err-test_settings g c =
    settings_handed _ _ _ _ _ _ _ c.from_residual.ensures.1 (c.in_err-test_settings.ensures _ _)

pub test_buffer-requires : goal.test_buffer-requires
test_buffer-requires g c =
    log2_tested c.args.buffer.now _ c.args.q (c.in_ok-test_settings.ensures _ (costs_of c.args.costs.now))

pub returns-in_err-test_buffer : goal.returns-in_err-test_buffer
returns-in_err-test_buffer g c =
    buffer_handed _ _ _ _ _ _ _ c.from_residual-in_err-test_buffer.ensures.1 (c.in_ok-test_settings.ensures _ _)
    c.in_err-test_buffer.ensures
