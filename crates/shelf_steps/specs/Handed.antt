-- The seats that were handed out.
use Rattle.std.specs.Prelude.{ℕ}
use Rattle.image_layout.specs.Image.{ImageValue}
use Rattle.shelf_steps.specs.declared.views.LoaderView.{LoaderView}
use Rattle.shelf_steps.specs.Rule.{first_loader_view}

-- the loader's view at the start, once n workers' seats were handed out
abbrev pub handed : ℕ → ImageValue → LoaderView
handed n image = record (first_loader_view image) { handed = n }
