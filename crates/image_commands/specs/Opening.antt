-- Which image bytes spell, and which bytes spell none.
use Rattle.std.specs.Prelude.{◌≡◌, ◌≢◌, ◌⊎◌, ◌<◌, ◌%◌, ◌^◌, ℕ, List, Option, Some, length, slice_index}
use Rattle.image_files.specs.Held.{HoldsOfBytes}
use Rattle.image_layout.specs.Image.{ImageValue, Spells}
use Rattle.image_layout.specs.Text.{bytes_of}
use Rattle.image_verifier.specs.FirstFault.{first_fault}
use Rattle.image_verifier.specs.declared.fault.ImageFault.TheVariants.{OutOfMemory}
use Rattle.command_endings.specs.Ending.{PrintsRefusal}
use Rattle.image_commands.specs.Refusing.{refusal_line}
use Rattle.image_commands.specs.declared.refusal.CommandRefusal.{CommandRefusal}
use Rattle.image_commands.specs.declared.refusal.CommandRefusal.TheVariants.{OddLength, Image, Query, BadText, Journey}

-- the bytes spell the image's words, in its layout
abbrev pub SpellsImage : ImageValue → List ℕ → Type 0
SpellsImage image bytes = (words : List ℕ) × (bytes_of words ≡ bytes) × Spells words image

-- each of these words has 32 bits. Of no other words are bytes the same as of these
abbrev pub HaveWordBits : List ℕ → Type 0
HaveWordBits words = (k : ℕ) → slice_index words k < 2 ^ 32

-- the bytes aren't whole words, or spell words that have this first fault
abbrev pub IsNoImage : CommandRefusal → List ℕ → Type 0
IsNoImage OddLength bytes = length bytes % 4 ≢ 0
IsNoImage (Image fault) bytes = (words : List ℕ) × HaveWordBits words × (bytes_of words ≡ bytes) × (first_fault words ≡ Some fault)
IsNoImage (Query fault) bytes = ⊥
IsNoImage BadText bytes = ⊥
IsNoImage (Journey fault) bytes = ⊥

-- it is a refusal of an image: for its length, or for a fault of its words other than want of memory
abbrev pub IsOfImage : CommandRefusal → Type 0
IsOfImage OddLength = Unit {0}
IsOfImage (Image fault) = fault ≢ OutOfMemory
IsOfImage (Query fault) = ⊥
IsOfImage BadText = ⊥
IsOfImage (Journey fault) = ⊥

-- `may_hold` says what a file at a path may hold; the path `-` is that of the input
module _ (may_hold : List ℕ → Option (List ℕ) → Type 0) (path : List ℕ) (input : Option (List ℕ)) where
  -- the bytes at the path are no image, and this is the line of the refusal that says why
  abbrev pub IsRefusedImage : List ℕ → Type 0
  IsRefusedImage line =
      (refusal : CommandRefusal) × IsOfImage refusal × HoldsOfBytes may_hold path input (IsNoImage refusal) × (line ≡ refusal_line refusal)

  -- `Is image status text` says what a command may print of an image: what it prints of the one at the path, or that there is none
  abbrev pub PrintsOver : (ImageValue → ℕ → List ℕ → Type 0) → ℕ → List ℕ → Type 0
  PrintsOver Is status text =
      ((image : ImageValue) × HoldsOfBytes may_hold path input (SpellsImage image) × Is image status text)
      ⊎ PrintsRefusal IsRefusedImage status text
