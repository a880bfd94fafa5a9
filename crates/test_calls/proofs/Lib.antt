mod Covered
mod Errands
mod TableUses
