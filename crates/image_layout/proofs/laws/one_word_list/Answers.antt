use Rattle.image_layout.proofs.WordList.{same_words}
use Rattle.image_layout.proofs.laws.one_word_list.Goals as goal

pub returns : goal.returns
returns c = same_words
