mod AnswerLemmas
mod OneLemmas
