use Rattle.answer_pictures.specs.Pictures.{grid_text}
use Rattle.answer_pictures.proofs.drawing.put_grid.Goals as goal

pub returns : goal.returns
unfolding grid_text
returns c = rw c.x_at.ensures at c.put_numbers.ensures
