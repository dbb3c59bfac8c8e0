mod Refutations
mod LabelsForgotten
mod ExampleAnswers
