mod Totals
mod Texts
