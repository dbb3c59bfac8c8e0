-- What is written of an image, and where.
use Rattle.std.specs.Prelude.{◌≡◌, ◌<◌, ◌⊎◌, ◌++◌, ℕ, zero, suc, List, [], Option, None, Some, String, codes, decimal, string_bytes}
use Rattle.std.specs.Io.KnownBytes.{Appends}
use Rattle.std.specs.declared.alloc.Global.{Global}
use Rattle.image_layout.specs.Fields.{layout_of}
use Rattle.image_layout.specs.Image.{IsImage}
use Rattle.image_layout.specs.declared.layout.TheConstants.{LAYOUT}
use Rattle.image_layout.specs.Text.{bytes_of}
use Rattle.image_files.specs.Out.{OutFiles}
use Rattle.image_files.specs.declared.writing.NewFile.{NewFile}
use Rattle.image_files.specs.declared.writing.TheConstants.{PARTS}
use Rattle.timetable.specs.NamesValue.{NamesValue}
use Rattle.timetable.specs.TimetableValue.{TimetableValue}

-- the words are a whole image, not a part of one, in the current layout
pub record IsWholeImage (words : List ℕ) : Type 0 where
  pub timetable : TimetableValue
  pub names : NamesValue
  pub image : IsImage words timetable names
  pub layout : layout_of words ≡ LAYOUT

-- what a name ends with behind `.part`
abbrev pub part_number : ℕ → List ℕ
part_number zero = []
part_number (suc n) = decimal (suc n)

-- the paths at which a file may be until it is whole, if it is to be at this path
abbrev pub part_of : List ℕ → ℕ → List ℕ
part_of path number = (path ++ codes ".part") ++ part_number number

abbrev pub IsBeside : List ℕ → List ℕ → Type 0
IsBeside path beside = (number : ℕ) × (number < PARTS) × (beside ≡ part_of path number)

-- a file may not be made at one of these paths
abbrev pub MayNotMakeBeside : OutFiles → List ℕ → Type 0
MayNotMakeBeside disk path = (beside : List ℕ) × IsBeside path beside × disk.may_not_make beside

-- where a file is that is to be at a path
abbrev pub path_beside : List ℕ → Option (String Global) → List ℕ
path_beside path None = path
path_beside path (Some beside) = string_bytes beside

abbrev pub write_path_of : {F : Type 0} → NewFile F → List ℕ
write_path_of file = path_beside file.path.now file.beside

-- where a machine has the standard output of a program
abbrev pub standard_output : List ℕ
standard_output = codes "/dev/stdout"

-- a file that is to be at the path is made beside it, if at the path is a plain file or nothing; what else is there is opened, but for a file that standard
-- output is written to
abbrev pub IsWritePath : OutFiles → List ℕ → List ℕ → Type 0
IsWritePath disk path write_path =
    disk.may_be_apart path standard_output
    × ((IsBeside path write_path × disk.plain path) ⊎ ((write_path ≡ path) × disk.special path))

-- a file that is to be at the path may not be made or written beside it, if at the path is a plain file or nothing; what else is there may not be opened or
-- written; or a file may not be moved to the path; or it may be the file that standard output is written to
abbrev pub IsUnwritable : OutFiles → List ℕ → Type 0
IsUnwritable disk path =
    (disk.plain path × MayNotMakeBeside disk path) ⊎ disk.may_not_move path ⊎ (disk.special path × disk.may_not_open path)
    ⊎ disk.may_be_one path standard_output

-- what is at the path may not be opened or written, or may be the file that standard output is written to
abbrev pub IsUnwritableInto : OutFiles → List ℕ → Type 0
IsUnwritableInto disk path = disk.may_not_open path ⊎ disk.may_not_move path ⊎ disk.may_be_one path standard_output

-- a file was made or opened so that it will be at the path
pub record IsNew {F : Type 0} (contents : F → Option (List ℕ)) (disk : OutFiles) (path : List ℕ) (made : NewFile F) : Type 0 where
  pub path_is : made.path.now ≡ path
  pub write_path : IsWritePath disk path (write_path_of made)
  pub begun : disk.may_begin (write_path_of made) (contents made.file)

-- a file that was made or opened at a path grew by exactly these bytes, and is at the path
pub record IsFileAt (disk : OutFiles) (write_path path bytes : List ℕ) : Type 0 where
  pub start : Option (List ℕ)
  pub end : Option (List ℕ)
  pub begun : disk.may_begin write_path start
  pub grown : Appends start end bytes
  pub stands : disk.may_stand write_path path end

-- the bytes were put at the path: by way of a file beside it, or into what is there, if that isn't a plain file
abbrev pub IsPut : OutFiles → List ℕ → List ℕ → Type 0
IsPut disk path bytes = (write_path : List ℕ) × IsWritePath disk path write_path × IsFileAt disk write_path path bytes

-- the bytes were put into the file at the path, which was emptied, or into what else is there, but for a file that standard output is written to
abbrev pub IsPutInto : OutFiles → List ℕ → List ℕ → Type 0
IsPutInto disk path bytes = disk.may_be_apart path standard_output × IsFileAt disk path path bytes

-- the image of a timetable and its names, in the current layout, was put at the path
abbrev pub IsImagePut : OutFiles → List ℕ → TimetableValue → NamesValue → Type 0
IsImagePut disk path timetable names =
    (words : List ℕ) × IsImage words timetable names × (layout_of words ≡ LAYOUT) × IsPut disk path (bytes_of words)
