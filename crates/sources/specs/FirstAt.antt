-- Where the connections of a window begin and end, defined as for images.
pub use Rattle.image_verifier.specs.FirstAt.{IsFirstAt}
