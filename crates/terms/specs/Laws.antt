-- What follows of terms and their words: as many words as symbols, walks over words, formed parts, substitution.
pub mod Flat
pub mod Walk
pub mod FormedParts
pub mod Substitution
