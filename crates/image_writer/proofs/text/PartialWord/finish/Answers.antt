use Rattle.std.proofs.Common.{refl, sym, append-nil}
use Rattle.image_layout.specs.Spelling.{text_words}
use Rattle.image_writer.proofs.text.PartialWord.finish.Goals as goal
use Rattle.image_writer.proofs.text.PartialWord.finish.Goals.{in-One, in-Two, in-Three}

pub returns-in-Empty : goal.returns-in-Empty
unfolding text_words
returns-in-Empty c = rw c.in-Empty.is (sym (append-nil _))

pub returns : goal.returns
unfolding text_words
returns c =
    elim c.match-self.branch [
      | in-One w ↦ rw (w.in-One.is, c.in_ok-push.ensures.items, c.from_le_bytes.ensures, w.last-is) refl
      | in-Two w ↦ rw (w.in-Two.is, c.in_ok-push.ensures.items, c.from_le_bytes.ensures, w.last-is) refl
      | in-Three w ↦ rw (w.in-Three.is, c.in_ok-push.ensures.items, c.from_le_bytes.ensures, w.last-is) refl
    ]
