mod SameWord
mod Cuts
mod Digits
mod Givens
mod Takens
mod Picks
mod FreshPlace
mod CommandNames
