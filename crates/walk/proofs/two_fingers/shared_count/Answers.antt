-- `walk::two_fingers::shared_count` meets its contract: each branch is a move of the fingers, and each way out is
-- a finger past its row's end. All else is plain arithmetic.
use Rattle.walk.proofs.Fingers.{fingers_start, both_move, left_moves, right_moves, left_past_end, right_past_end}
use Rattle.walk.proofs.two_fingers.shared_count.Goals as goal

pub loop-left_finger-init : goal.loop-left_finger-init
loop-left_finger-init c = fingers_start

pub loop-left_finger-preserved-then-left_card-right_card :
    goal.loop-left_finger-preserved-then-left_card-right_card
loop-left_finger-preserved-then-left_card-right_card c = search both_move

pub loop-left_finger-preserved-then-left_card-right_card-2 :
    goal.loop-left_finger-preserved-then-left_card-right_card-2
loop-left_finger-preserved-then-left_card-right_card-2 c = search left_moves

pub loop-left_finger-preserved : goal.loop-left_finger-preserved
loop-left_finger-preserved c = search right_moves

pub returns-else-right_finger-right_row : goal.returns-else-right_finger-right_row
returns-else-right_finger-right_row c = search right_past_end

pub returns-after-loop-left_finger : goal.returns-after-loop-left_finger
returns-after-loop-left_finger c = search left_past_end
